-- What the discipline forbids, and the bytes that are lost by it, from every chip.
-- Rests on Shapes, Moved, Tables, SurroundingsKept and Followed, on bits' Logic and laws' ChannelPins.
use Rattle.std.proofs.Common.{◌≡◌, ◌∙◌, refl, ap, ap₂, subst, true, false, List, [], ◌∷◌, ℕ}
use Rattle.bits.specs.Bit.{bit_of}
use Rattle.bits.proofs.Logic.{contrary}
use Rattle.bus.specs.Event.{Event}
use Rattle.bus.specs.Histories.{levels}
use Rattle.bus.specs.declared.Phase.TheVariants.{Idle, Reading}
use Rattle.control.specs.declared.Group.{Group}
use Rattle.control.specs.declared.Group.TheVariants.{A, B}
use Rattle.chip.specs.declared.channel.Side.{Side}
use Rattle.chip.specs.declared.channel.Side.TheVariants.{Input}
use Rattle.chip.specs.declared.channel.Fill.{Fill}
use Rattle.chip.specs.declared.channel.Fill.TheVariants.{Empty, Waiting, Fetching}
use Rattle.chip.specs.Channel.{flag_of, next}
use Rattle.chip.specs.declared.Edition.{Edition}
use Rattle.chip.specs.declared.Edition.TheVariants.{Older, Newer}
use Rattle.chip.specs.declared.Chip.{Chip}
use Rattle.chip.specs.State.{port_of, tally_of}
use Rattle.chip.specs.Handshakes.{flag_pin}
use Rattle.laws.specs.Seen.{pin}
use Rattle.laws.proofs.ChannelPins.{flag_pin_lem}
use Rattle.fates.specs.Kinds.{readable_at}
use Rattle.fates.specs.Surroundings.{Surroundings}
use Rattle.fates.specs.Effects.{Effect, offered, taken, ended, nothing, levels_on, strobes, effects}
use Rattle.fates.specs.Bytes.{Fate, overwritten, swallowed, waiting, offered_at, bytes, same}
use Rattle.fates.specs.Left.{left}
use Rattle.fates.specs.Promise.{tallies, surroundings_of, held_byte}
use Rattle.fates.specs.Discipline.{ibf, Minds}
use Rattle.fates.specs.Numbers.{own_port, own_line, own_flag}
use Rattle.fates.specs.Harm.{StbFalls, Overwrites, strobe_in_a_read, SwallowsTheNext, read_over_a_strobe, Swallows}
use Rattle.fates.proofs.Shapes.{shape_of, fill_after, gives}
use Rattle.fates.proofs.Moved.{tally_for}
use Rattle.fates.proofs.Tables.{strobes_same}
use Rattle.fates.proofs.SurroundingsKept.{surroundings_next_lem}
use Rattle.fates.proofs.Followed.{after, fill, latch, next_fill, next_tally}

-- The tally of a fate after some effects.
abbrev tally_over : Fate → Side → Fill → ℕ → List Effect → ℕ
tally_over f s h t [] = t
tally_over f s h t (d ∷ later) = tally_over f s (fill_after s h (shape_of d)) (next (gives f h (shape_of d)) t) later

tally_over_lem : (f : Fate) → same f waiting ≡ false → (g : Group) (s : Side) (c : Chip) (es : List Event)
    → tally_for f (tallies g s c es) ≡ tally_over f s (fill g s c) (tally_for f (tally_of c g s)) (effects g s (surroundings_of c) es)
tally_over_lem f tallied g s c [] = refl
tally_over_lem f tallied g s c (e ∷ es) =
    tally_over_lem f tallied g s (after c e) es
    ∙ rw (next_fill g s c e, next_tally g s c e f tallied, surroundings_next_lem c e)

-- What the events are to the channel.
readable : (ed : Edition) (g : Group) → readable_at ed (own_port g) ≡ true
readable Older A = refl
readable Older B = refl
readable Newer A = refl
readable Newer B = refl

strobe_offers : (g : Group) (a : Surroundings) (x : ℕ) → strobes a.word g Input ≡ true
    → bit_of a.levels_c (own_line g Input) ≡ true → bit_of x (own_line g Input) ≡ false → effects g Input a (levels 2 x) ≡ offered (levels_on g a) ∷ []
strobe_offers A a x takes high low = rw (takes, high, low)
strobe_offers B a x takes high low = rw (takes, high, low)

strobe_swallowed : (g : Group) (a : Surroundings) (x : ℕ) → strobes a.word g Input ≡ true
    → bit_of a.levels_c (own_line g Input) ≡ true → bit_of x (own_line g Input) ≡ false → a.phase ≡ Idle → effects g Input a (read_over_a_strobe g x) ≡ taken ∷ offered (levels_on g a) ∷ ended ∷ []
strobe_swallowed A a x takes high low idle = rw (idle, readable a.edition A, takes, high, low)
strobe_swallowed B a x takes high low idle = rw (idle, readable a.edition B, takes, high, low)

strobe_fetched : (g : Group) (a : Surroundings) (x : ℕ) → strobes a.word g Input ≡ true
    → bit_of a.levels_c (own_line g Input) ≡ true → bit_of x (own_line g Input) ≡ false → a.phase ≡ Reading (own_port g)
    → effects g Input a (strobe_in_a_read x) ≡ offered (levels_on g a) ∷ ended ∷ []
strobe_fetched A a x takes high low runs = rw (runs, takes, high, low)
strobe_fetched B a x takes high low runs = rw (runs, takes, high, low)

-- The first of the effects.
abbrev first : List Effect → Effect
first [] = nothing
first (d ∷ later) = d

ibf_at : (g : Group) → own_flag g Input ≡ flag_pin g Input
ibf_at A = refl
ibf_at B = refl

levels_are : (c : Chip) (g : Group) → levels_on g (surroundings_of c) ≡ (port_of c.core g).outside
levels_are c A = refl
levels_are c B = refl

module _ (g : Group) (c : Chip) (x : ℕ) where
  -- IBF is high where the channel is not empty.
  ibf_shows : (f : Fill) → StbFalls g c f x → ibf c g ≡ flag_of Input f
  ibf_shows f k = flag_pin_lem c g Input k.takes ∙ ap (flag_of Input) k.fill

  takes : (f : Fill) → StbFalls g c f x → strobes c.core.word g Input ≡ true
  takes f k = strobes_same c.core.word g Input ∙ k.takes

  pub overwrites : StbFalls g c Waiting x → Overwrites g c x
  unfolding flag_of
  overwrites k =
      let are = strobe_offers g (surroundings_of c) x (takes Waiting k) k.high k.low in
      record {
        ibf_high = ap (pin c) (ibf_at g) ∙ ibf_shows Waiting k;
        forbidden = λ kept. contrary (ibf c g) (subst (Minds (ibf c g)) (ap first are) kept.0) (ibf_shows Waiting k);
        byte = ap₂ (λ f ds. held_byte f (offered_at 0 (latch g Input c)) 1 ds) k.fill are;
        counted =
            tally_over_lem overwritten refl g Input c (levels 2 x)
            ∙ ap₂ (λ f ds. tally_over overwritten Input f (tally_of c g Input).overwritten ds) k.fill are;
        not_swallowed =
            tally_over_lem swallowed refl g Input c (levels 2 x)
            ∙ ap₂ (λ f ds. tally_over swallowed Input f (tally_of c g Input).swallowed ds) k.fill are;
      }

  pub swallows_next : StbFalls g c Fetching x → c.phase ≡ Reading (own_port g) → SwallowsTheNext g c x
  unfolding flag_of
  swallows_next k runs =
      let are = strobe_fetched g (surroundings_of c) x (takes Fetching k) k.high k.low runs in
      record {
        ibf_high = ap (pin c) (ibf_at g) ∙ ibf_shows Fetching k;
        forbidden = λ kept. contrary (ibf c g) (subst (Minds (ibf c g)) (ap first are) kept.0) (ibf_shows Fetching k);
        byte = ap₂ (λ f ds. bytes Input (left f (latch g Input c)) 1 ds) k.fill are ∙ rw (levels_are c g);
        counted =
            tally_over_lem swallowed refl g Input c (strobe_in_a_read x)
            ∙ ap₂ (λ f ds. tally_over swallowed Input f (tally_of c g Input).swallowed ds) k.fill are;
        not_overwritten =
            tally_over_lem overwritten refl g Input c (strobe_in_a_read x)
            ∙ ap₂ (λ f ds. tally_over overwritten Input f (tally_of c g Input).overwritten ds) k.fill are;
      }

  pub swallows : StbFalls g c Empty x → c.phase ≡ Idle → Swallows g c x
  unfolding flag_of
  swallows k idle =
      let are = strobe_swallowed g (surroundings_of c) x (takes Empty k) k.high k.low idle in
      record {
        ibf_low = ap (pin c) (ibf_at g) ∙ ibf_shows Empty k;
        forbidden = λ kept. contrary (ibf c g) (ibf_shows Empty k) (subst (Minds (ibf c g)) (ap first are) kept.0);
        byte = ap₂ (λ f ds. bytes Input (left f (latch g Input c)) 1 ds) k.fill are ∙ rw (levels_are c g);
        counted =
            tally_over_lem swallowed refl g Input c (read_over_a_strobe g x)
            ∙ ap₂ (λ f ds. tally_over swallowed Input f (tally_of c g Input).swallowed ds) k.fill are;
        not_overwritten =
            tally_over_lem overwritten refl g Input c (read_over_a_strobe g x)
            ∙ ap₂ (λ f ds. tally_over overwritten Input f (tally_of c g Input).overwritten ds) k.fill are;
      }
