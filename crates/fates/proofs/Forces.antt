-- An event forces the flag of a channel exactly where it ends the write of a word that names it.
-- Rests on bits' Logic, the bus's ByKind, Tables, Accepted, PinNamed, SurroundingsKept and Wherever.
use Rattle.std.proofs.Common.{◌≡◌, ◌∙◌, refl, ap, sym, subst, Bool, true, false, cond, not, ◌&&◌, List, [], ◌∷◌, ℕ, ◌/◌, ◌%◌, arith, eqb, eq-eqb, eqb-true, ◌↔◌}
use borrow.Author.Tests.{not-true, eqb-false}
use Rattle.bits.specs.Bit.{bit_of}
use Rattle.bits.proofs.Logic.{contrary, both}
use Rattle.bus.specs.Kinds.{is_kind}
use Rattle.bus.specs.Event.{Event, event}
use Rattle.bus.specs.declared.Phase.{Phase}
use Rattle.bus.specs.declared.Phase.TheVariants.{Idle, Reading, Writing}
use Rattle.bus.proofs.ByKind.{by_kind, no_kind_differs}
use Rattle.control.specs.declared.Group.{Group}
use Rattle.control.specs.declared.Group.TheVariants.{A, B}
use Rattle.chip.specs.declared.channel.Side.{Side}
use Rattle.chip.specs.declared.channel.Side.TheVariants.{Input, Output}
use Rattle.chip.specs.declared.Edition.{Edition}
use Rattle.chip.specs.declared.Chip.{Chip}
use Rattle.chip.specs.Step.{stepped}
use Rattle.laws.specs.PlainBits.{handshake_on}
use Rattle.fates.specs.Kinds.{readable_at, free}
use Rattle.fates.specs.Surroundings.{Surroundings}
use Rattle.fates.specs.Effects.{Effect, offered, followed, taken, ended, cleared_away, forced_full, forced_empty, nothing, port_number, full_pin, strobes, falls, under_low, pin_named, when, effect}
use Rattle.fates.specs.Numbers.{own_flag}
use Rattle.fates.specs.Promise.{run, surroundings_of}
use Rattle.fates.specs.Discipline.{Unforced, NeverForced}
use Rattle.fates.specs.Conditions.{Forces, NoneForces}
use Rattle.fates.proofs.Tables.{strobes_plain}
use Rattle.fates.proofs.Accepted.{no_name}
use Rattle.fates.proofs.PinNamed.{pin_same}
use Rattle.fates.proofs.SurroundingsKept.{surroundings_next_lem}
use Rattle.fates.proofs.Wherever.{nowhere, at_first, at_later, at_both}

-- The pin of the flag, by plain numbers.
flag_own : (g : Group) (s : Side) → full_pin g s ≡ own_flag g s
flag_own A Input = refl
flag_own A Output = refl
flag_own B Input = refl
flag_own B Output = refl

-- Control is no group's port.
no_port : (g : Group) → eqb 3 (port_number g) ≡ false
no_port A = refl
no_port B = refl

-- An effect under a condition forces nothing, where neither it nor the other does.
free_either : (b : Bool) (d d' : Effect) → Unforced d → Unforced d' → Unforced (cond b d d')
free_either true d d' free free' = free
free_either false d d' free free' = free'

free_when : (b : Bool) (d : Effect) → Unforced d → Unforced (when b d)
free_when b d free = free_either b d nothing free tt

-- The end of a cycle, by whether it is a mode word's, whether the channel is strobed, whether its own cycle runs, whether its flag is named, and the
-- level to which that is put.
abbrev at_end : Bool → Bool → Bool → Bool → Bool → Effect → Effect
at_end mode strobed own named full d = cond mode cleared_away (when strobed (cond own d (when named (cond full forced_full forced_empty))))

end_free : (mode strobed own named full : Bool) (d : Effect) → Unforced d → (mode ≡ false → strobed ≡ true → named ≡ true → ⊥)
    → Unforced (at_end mode strobed own named full d)
end_free true strobed own named full d free none = tt
end_free false false own named full d free none = tt
end_free false true true named full d free none = free
end_free false true false false full d free none = tt
end_free false true false true full d free none = absurd (none refl refl refl)

end_forced : (mode strobed own named full : Bool) (d : Effect) → mode ≡ false → strobed ≡ true → own ≡ false → named ≡ true
    → Unforced (at_end mode strobed own named full d) → ⊥
end_forced true strobed own named full d m s o n free = contrary true m refl
end_forced false false own named full d m s o n free = contrary false refl s
end_forced false true true named full d m s o n free = contrary true o refl
end_forced false true false false full d m s o n free = contrary false refl n
end_forced false true false true true d m s o n free = free
end_forced false true false true false d m s o n free = free

module _ (g : Group) (ed : Edition) (w a b c x y : ℕ) where
  abbrev around : Phase → Surroundings
  around ph = record { phase = ph; edition = ed; word = w; levels_a = a; levels_b = b; levels_c = c }

  -- The flag is named, by the bits of the word.
  named_is : (s : Side) (z d : ℕ) → (eqb z 3 && (not (bit_of d 7) && eqb (pin_named d) (full_pin g s))) ≡ true
      → (z ≡ 3) × (bit_of d 7 ≡ false) × (d / 2 % 8 ≡ own_flag g s)
  named_is s z d named =
      let control = both (eqb z 3) _ named in
      let word = both (not (bit_of d 7)) _ control.1 in
      (eqb-true z 3 control.0, not-true (bit_of d 7) word.0, sym (pin_same d) ∙ eqb-true _ _ word.1 ∙ flag_own g s)

  is_named : (s : Side) (d : ℕ) → bit_of d 7 ≡ false → d / 2 % 8 ≡ own_flag g s → (not (bit_of d 7) && eqb (pin_named d) (full_pin g s)) ≡ true
  is_named s d clear pin = rw (clear) (eq-eqb _ _ (pin_same d ∙ pin ∙ sym (flag_own g s)))

  end_unforced : (s : Side) (ph : Phase)
      → ((d : ℕ) → ph ≡ Writing 3 d → bit_of d 7 ≡ false → d / 2 % 8 ≡ own_flag g s → handshake_on w g s ≡ true → ⊥)
      → Unforced (effect g s (around ph) (event 2 x y))
  end_unforced s Idle none = tt
  end_unforced Input (Reading p) none = end_free false (strobes w g Input) (eqb p (port_number g)) false false ended tt (λ m s n. contrary false refl n)
  end_unforced Output (Reading p) none = end_free false (strobes w g Output) false false false nothing tt (λ m s n. contrary false refl n)
  end_unforced Input (Writing z d) none =
      end_free (eqb z 3 && bit_of d 7) (strobes w g Input) false (eqb z 3 && (not (bit_of d 7) && eqb (pin_named d) (full_pin g Input))) (bit_of d 0) ended tt
      (λ m s n.
      let is = named_is Input z d n in
      none d (ap (λ (k : ℕ). Writing k d) is.0) is.1 is.2 (sym (strobes_plain w g Input) ∙ s))
  end_unforced Output (Writing z d) none =
      end_free (eqb z 3 && bit_of d 7) (strobes w g Output) (eqb z (port_number g)) (eqb z 3 && (not (bit_of d 7) && eqb (pin_named d) (full_pin g Output)))
      (not (bit_of d 0)) (offered d) tt
      (λ m s n.
      let is = named_is Output z d n in
      none d (ap (λ (k : ℕ). Writing k d) is.0) is.1 is.2 (sym (strobes_plain w g Output) ∙ s))

  end_is_forced : (s : Side) (ph : Phase) (d : ℕ) → ph ≡ Writing 3 d → bit_of d 7 ≡ false → d / 2 % 8 ≡ own_flag g s → handshake_on w g s ≡ true
      → Unforced (effect g s (around ph) (event 2 x y)) → ⊥
  end_is_forced s ph d writes clear pin takes free = go s pin takes (subst (λ (ph : Phase). Unforced (effect g s (around ph) (event 2 x y))) writes free)
    where
      go : (s : Side) → d / 2 % 8 ≡ own_flag g s → handshake_on w g s ≡ true → Unforced (effect g s (around (Writing 3 d)) (event 2 x y)) → ⊥
      go Input pin takes free =
          end_forced (bit_of d 7) (strobes w g Input) false _ (bit_of d 0) ended clear (strobes_plain w g Input ∙ takes) refl (is_named Input d clear pin) free
      go Output pin takes free =
          end_forced (bit_of d 7) (strobes w g Output) (eqb 3 (port_number g)) _ (not (bit_of d 0)) (offered d)
          clear (strobes_plain w g Output ∙ takes) (no_port g) (is_named Output d clear pin) free

-- An event of another kind forces nothing.
module _ (g : Group) (c : Chip) (x d : ℕ) where
  abbrev Exactly : Side → ℕ → Type 0
  Exactly s k = Unforced (effect g s (surroundings_of c) (event k x d)) ↔ ¬ Forces g s c (event k x d)

  read_free : (s : Side) → Unforced (effect g s (surroundings_of c) (event 1 x d))
  read_free Input = free_when (readable_at c.edition x && free c.phase) _ (free_when (strobes c.core.word g Input) _ (free_when (eqb x (port_number g)) taken tt))
  read_free Output = free_when (readable_at c.edition x && free c.phase) _ (free_when (strobes c.core.word g Output) nothing tt)

  write_free : (s : Side) → Unforced (effect g s (surroundings_of c) (event 3 x d))
  write_free s = free_when _ _ (free_when (strobes c.core.word g s) nothing tt)

  levels_free : (s : Side) → Unforced (effect g s (surroundings_of c) (event 5 x d))
  levels_free Input =
      free_when _ _
      (free_when (strobes c.core.word g Input) _
      (free_either (falls g Input (surroundings_of c) x d) _ _ tt (free_when (under_low g (surroundings_of c) x) (followed d) tt)))
  levels_free Output = free_when _ _ (free_when (strobes c.core.word g Output) _ (free_when (falls g Output (surroundings_of c) x d) taken tt))

  unforced_exactly : (s : Side) (k : ℕ) → Exactly s k
  unfolding is_kind
  unforced_exactly s =
      by_kind (Exactly s)
      (λ free f. omega (arith, f.ends), λ none. tt)
      (λ free f. omega (arith, f.ends), λ none. read_free s) (
        λ free f. end_is_forced g c.edition c.core.word c.core.a.outside c.core.b.outside c.core.c.outside x d s c.phase f.word f.writes f.bit_7 f.pin f.strobed free,
        λ none.
            end_unforced g c.edition c.core.word c.core.a.outside c.core.b.outside c.core.c.outside x d s c.phase
            (λ word writes bit_7 pin strobed. none (record { ends = refl; word = word; writes = writes; bit_7 = bit_7; pin = pin; strobed = strobed })),
      )
      (λ free f. omega (arith, f.ends), λ none. write_free s)
      (λ free f. omega (arith, f.ends), λ none. levels_free s)
      (λ k other. (λ free f. eqb-false k 2 (no_kind_differs k 2 other refl) f.ends, λ none. rw (no_name k x d other) tt))

-- So it is over a history.
pub none_forces : (g : Group) (s : Side) (es : List Event) (c : Chip) → NeverForced g s (surroundings_of c) es ↔ NoneForces g s c es
none_forces g s [] c = (λ kept. nowhere _, λ none. tt)
none_forces g s (e ∷ es) c =
    let here = unforced_exactly g c e.first e.second s e.kind in
    let later = none_forces g s es (stepped c e).state in
    let P : List Event → Event → Type 0 = λ before x. ¬ Forces g s (run c before) x in (
      λ kept. at_both P e es (here.0 kept.0) (later.0 (rw (surroundings_next_lem c e) kept.1)),
      λ none. (here.1 (at_first P e es none), rw (← surroundings_next_lem c e) (later.1 (at_later P e es none))),
    )
