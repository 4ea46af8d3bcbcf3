-- INTR's waveform is the sheet's equation: a half is up exactly while INTE, the flag and the line are high and the port is not being served.
-- Rests on ByEvent, Signals and Truth, on chip's OnPort, and on fates' Tables.
use Rattle.std.proofs.Common.{◌≡◌, ◌∙◌, refl, sym, Bool, true, false, cond, not, ◌&&◌, ◌||◌, ℕ, eqb, eqb-true, ne_eqb}
use mathlib.Core.Bool.{and-false, and-true}
use borrow.Author.Tests.{eqb-false}
use Rattle.bits.specs.Bit.{bit_of}
use Rattle.bus.specs.Event.{Event}
use Rattle.bus.specs.declared.Phase.TheVariants.{Idle, Reading, Writing}
use Rattle.control.specs.declared.Group.{Group}
use Rattle.control.specs.declared.Group.TheVariants.{A, B}
use Rattle.chip.specs.declared.channel.Side.{Side}
use Rattle.chip.specs.declared.channel.Side.TheVariants.{Input, Output}
use Rattle.chip.proofs.OnPort.{control_not_own}
use Rattle.fates.specs.Kinds.{new_levels}
use Rattle.fates.specs.Surroundings.{Surroundings, surroundings_after}
use Rattle.fates.specs.Effects.{port_number, strobe_pin, full_pin, pin_named}
use Rattle.fates.proofs.Tables.{own_same}
use Rattle.account.specs.Summary.{signal_at, is_in, settable, reached}
use Rattle.account.specs.Acts.{Act, anew, read_begins, read_ends, write_begins, written, levels}
use Rattle.account.specs.Account.{Account, strobed, line, names, flag, served, asks_after, account_after, account_next}
use Rattle.account.proofs.Signals.{strobe_stands, acknowledge_stands}
use Rattle.account.proofs.Truth.{truth}
use Rattle.account.proofs.ByEvent.{on_bus, by_event}

-- The sheet's equation.
abbrev pub equation : Account → Group → Side → Bool
equation a g s = strobed a.surroundings g s && (a.bit (strobe_pin g s) && (flag a g s && (line a.surroundings g s && not (served a.surroundings g s))))

-- The account's waveforms keep to it.
abbrev pub Even : Account → Type 0
Even a = (g : Group) (s : Side) → a.asks g s ≡ equation a g s

-- The line of a strobed channel can be put by a control word, and by no write to port C.
line_settable : (a : Surroundings) (g : Group) (s : Side) → strobed a g s ≡ true
    → settable (signal_at a.word (strobe_pin g s)) (is_in a.word (strobe_pin g s)) ≡ true
line_settable a g Input on = rw (strobe_stands a.word g on)
line_settable a g Output on = rw (acknowledge_stands a.word g on)

line_unreached : (a : Surroundings) (g : Group) (s : Side) → strobed a g s ≡ true → reached a.word (strobe_pin g s) ≡ false
line_unreached a g Input on = rw (strobe_stands a.word g on)
line_unreached a g Output on = rw (acknowledge_stands a.word g on)

chosen : (two : Bool) (d l n : ℕ) → bit_of (cond two d l) n ≡ cond two (bit_of d n) (bit_of l n)
chosen true d l n = refl
chosen false d l n = refl

-- What a write that ends and new levels make of a half, in truth values: s strobed, b INTE, f flag, l line and h its new level, v served; n a
-- control word names the line, p what it puts; m it names the flag, t the level to which that is forced; e a write to port C, u its bit, q and
-- r what reaches the line; o the port's own write.
put : (s n p m t q e r u b f l : Bool) → (s ≡ true → q ≡ true) → (s ≡ true → r ≡ false) → (n && m) ≡ false
    → cond n (p && (s && (f && l))) (cond (s && m) (t && (s && (b && l))) (s && (b && (f && (l && true)))))
    ≡ s && (cond (n && q) p (cond (e && r) u b) && (cond (s && m) t f && (l && true)))
put true n p true t q e r u b f l can none apart =
    rw (sym (and-true n) ∙ apart, none refl)
    (truth 5 (λ t e u b l. t && (true && (b && l))) (λ t e u b l. true && (cond (e && false) u b && (t && (l && true)))) tt t e u b l)
put true n p false t q e r u b f l can none apart =
    rw (can refl, none refl)
    (truth 7 (λ n p e u b f l. cond n (p && (true && (f && l))) (true && (b && (f && (l && true)))))
    (λ n p e u b f l. true && (cond (n && true) p (cond (e && false) u b) && (f && (l && true)))) tt n p e u b f l)
put false n p m t q e r u b f l can none apart = truth 2 (λ n p. cond n (p && false) false) (λ n p. false) tt n p

put_own : (s n p m t q e r u b f l o : Bool) → (s ≡ true → q ≡ true) → (s ≡ true → r ≡ false) → (n && m) ≡ false → (n && o) ≡ false → (m && o) ≡ false
    → cond n (p && (s && (f && l))) (cond (s && m) (t && (s && (b && l))) (s && (b && (f && (l && not o)))))
    ≡ s && (cond (n && q) p (cond (e && r) u b) && (cond (s && m) t (f && not (o && s)) && (l && true)))
put_own true n p m t q e r u b f l true can none apart own owned =
    rw (sym (and-true n) ∙ own, sym (and-true m) ∙ owned, and-false f)
    (truth 4 (λ b f l c. b && (f && (l && false))) (λ b f l c. c && false) tt b f l (cond (e && r) u b))
put_own true n p m t q e r u b f l false can none apart own owned =
    rw (and-true f) (put true n p m t q e r u b f l can none apart)
put_own false n p m t q e r u b f l o can none apart own owned = truth 2 (λ n p. cond n (p && false) false) (λ n p. false) tt n p

lined : (two s b f l h v : Bool)
    → cond two (h && cond l (s && (b && (f && (l && not v)))) (s && (b && (f && not v)))) (s && (b && (f && (l && not v))))
    ≡ s && (b && ((f || (s && (two && (l && not h)))) && (cond two h l && not v)))
lined =
    truth 7 (λ two s b f l h v. cond two (h && cond l (s && (b && (f && (l && not v)))) (s && (b && (f && not v)))) (s && (b && (f && (l && not v)))))
    (λ two s b f l h v. s && (b && ((f || (s && (two && (l && not h)))) && (cond two h l && not v)))) tt

-- A write to control is no port's own.
control_elsewhere : (x d n : ℕ) (g : Group) → (names x d n && eqb x (port_number g)) ≡ false
control_elsewhere x d n g = go (eqb x 3) refl
  where
    go : (three : Bool) → eqb x 3 ≡ three → ((three && eqb n (pin_named d)) && eqb x (port_number g)) ≡ false
    go true e = rw (own_same x g, control_not_own x e g) (and-false (eqb n (pin_named d)))
    go false e = refl

-- A control word names one pin: not both the line and the flag of a channel.
one_pin : (x d i j : ℕ) → eqb i j ≡ false → (names x d i && names x d j) ≡ false
one_pin x d i j apart = go (eqb x 3) (eqb i (pin_named d)) refl
  where
    go : (three first : Bool) → eqb i (pin_named d) ≡ first → ((three && first) && (three && eqb j (pin_named d))) ≡ false
    go true true is = rw (← eqb-true i (pin_named d) is) (ne_eqb j i (λ e. eqb-false i j apart (sym e)))
    go true false is = refl
    go false first is = refl

line_or_flag : (x d : ℕ) (g : Group) (s : Side) → (names x d (strobe_pin g s) && names x d (full_pin g s)) ≡ false
line_or_flag x d A Input = one_pin x d 4 5 refl
line_or_flag x d A Output = one_pin x d 6 7 refl
line_or_flag x d B Input = one_pin x d 2 1 refl
line_or_flag x d B Output = one_pin x d 2 1 refl

module _ (a : Account) (even : Even a) where
  abbrev Goes : Surroundings → Act → Type 0
  Goes later t = (g : Group) (s : Side) → asks_after a g s t ≡ equation (account_after a later t) g s

  even_renewed : (w : ℕ) → Goes (on_bus Idle w a.surroundings) anew
  even_renewed w g Input = sym (and-false (strobed (on_bus Idle w a.surroundings) g Input))
  even_renewed w g Output = sym (and-false (strobed (on_bus Idle w a.surroundings) g Output))

  even_read : (x : ℕ) → a.surroundings.phase ≡ Idle → Goes (on_bus (Reading x) a.surroundings.word a.surroundings) (read_begins x)
  even_read x phase g Input =
      rw (even g Input, phase)
      (truth 5 (λ s b f l o. (s && (b && (f && (l && true)))) && not o) (λ s b f l o. s && (b && (f && (l && not o)))) tt
      (strobed a.surroundings g Input) (a.bit (strobe_pin g Input)) (a.ibf g) (line a.surroundings g Input) (eqb x (port_number g)))
  even_read x phase g Output = rw (even g Output, phase)

  even_read_end : (x : ℕ) → a.surroundings.phase ≡ Reading x → Goes (on_bus Idle a.surroundings.word a.surroundings) (read_ends x)
  even_read_end x phase g Input =
      rw (even g Input, phase)
      (truth 5 (λ s b f l o. s && (b && (f && (l && not o)))) (λ s b f l o. s && (b && ((f && not (o && s)) && (l && true)))) tt
      (strobed a.surroundings g Input) (a.bit (strobe_pin g Input)) (a.ibf g) (line a.surroundings g Input) (eqb x (port_number g)))
  even_read_end x phase g Output = rw (even g Output, phase)

  even_write : (x d : ℕ) → a.surroundings.phase ≡ Idle → Goes (on_bus (Writing x d) a.surroundings.word a.surroundings) (write_begins x)
  even_write x d phase g Input = rw (even g Input, phase)
  even_write x d phase g Output =
      rw (even g Output, phase)
      (truth 5 (λ s b f l o. (s && (b && (f && (l && true)))) && not o) (λ s b f l o. s && (b && (f && (l && not o)))) tt
      (strobed a.surroundings g Output) (a.bit (strobe_pin g Output)) (a.obf g) (line a.surroundings g Output) (eqb x (port_number g)))

  even_written : (x d : ℕ) → a.surroundings.phase ≡ Writing x d → Goes (on_bus Idle a.surroundings.word a.surroundings) (written x d)
  even_written x d phase g Input =
      rw (even g Input, phase)
      (put (strobed a.surroundings g Input) (names x d (strobe_pin g Input)) (bit_of d 0) (names x d (full_pin g Input)) (bit_of d 0 || a.given g) _ (eqb x 2) _
      (bit_of d (strobe_pin g Input)) (a.bit (strobe_pin g Input)) (a.ibf g) (line a.surroundings g Input)
      (line_settable a.surroundings g Input) (line_unreached a.surroundings g Input) (line_or_flag x d g Input))
  even_written x d phase g Output =
      rw (even g Output, phase)
      (put_own (strobed a.surroundings g Output) (names x d (strobe_pin g Output)) (bit_of d 0) (names x d (full_pin g Output)) (bit_of d 0) _ (eqb x 2) _
      (bit_of d (strobe_pin g Output)) (a.bit (strobe_pin g Output)) (a.obf g) (line a.surroundings g Output) (eqb x (port_number g))
      (line_settable a.surroundings g Output) (line_unreached a.surroundings g Output) (line_or_flag x d g Output)
      (control_elsewhere x d (strobe_pin g Output) g) (control_elsewhere x d (full_pin g Output) g))

  even_levels : (x d : ℕ) → Goes (surroundings_after a.surroundings (new_levels x d)) (levels x d)
  even_levels x d g Input =
      rw (even g Input, chosen (eqb x 2) d a.surroundings.levels_c (strobe_pin g Input))
      (lined (eqb x 2) (strobed a.surroundings g Input) (a.bit (strobe_pin g Input)) (a.ibf g) (line a.surroundings g Input)
      (bit_of d (strobe_pin g Input)) (served a.surroundings g Input))
  even_levels x d g Output =
      rw (even g Output, chosen (eqb x 2) d a.surroundings.levels_c (strobe_pin g Output))
      (lined (eqb x 2) (strobed a.surroundings g Output) (a.bit (strobe_pin g Output)) (a.obf g) (line a.surroundings g Output)
      (bit_of d (strobe_pin g Output)) (served a.surroundings g Output))

  pub even_next : (e : Event) → Even (account_next a e)
  even_next =
      by_event Goes a.surroundings (record {
        at_rest = even;
        made_anew = even_renewed;
        read_starts = even_read;
        read_over = even_read_end;
        write_starts = even_write;
        write_over = even_written;
        levels_put = even_levels;
      })
