-- A read of control answers the last mode word of the history, from every power-up and from any chip.
-- Rests on Words, Agrees and Accounted, on bits' Logic and on laws' Cycles.
use Rattle.std.proofs.Common.{◌≡◌, ◌∙◌, refl, ap, sym, subst, Bool, true, false, cond, not, List, [], ◌∷◌, ◌⊎◌, inl, inr, ⊎_elim, ℕ, eqb, eqb-true}
use Rattle.bits.specs.Bit.{bit_of}
use Rattle.bits.specs.Sum.{byte_by}
use Rattle.bits.proofs.Logic.{contrary, both, by_test}
use Rattle.bus.specs.Event.{Event}
use Rattle.bus.specs.declared.Phase.{Phase}
use Rattle.bus.specs.declared.Phase.TheVariants.{Idle, Reading, Writing}
use Rattle.chip.specs.declared.Edition.{Edition}
use Rattle.chip.specs.declared.Levels.{Levels}
use Rattle.chip.specs.declared.Chip.{Chip}
use Rattle.chip.specs.State.{power_up_as}
use Rattle.laws.proofs.Cycles.{read_answers_lem}
use Rattle.fates.specs.Kinds.{Kind, reset, cycle_ended, unknown, read_begun, write_begun, new_levels, kind_of, free, accepts}
use Rattle.fates.specs.Surroundings.{Surroundings, of_mode_word, brought, at_power_up, surroundings_after, surroundings_next, surroundings_over}
use Rattle.fates.specs.Promise.{run}
use Rattle.account.specs.Account.{Account, account_next}
use Rattle.account.specs.Promise.{surroundings_here, over, account_of, Accounted}
use Rattle.account.specs.ReadBack.{Brings, BroughtBy, LastWord, ReadsBack}
use Rattle.account.proofs.Words.{with_bit_7_set}
use Rattle.account.proofs.Agrees.{agrees_of}
use Rattle.account.proofs.Accounted.{accounted}

-- An event brings the word that is then in force; or it brings none, and leaves the one that was.
abbrev Goes : Surroundings → Event → ℕ → Type 0
Goes a e w = Brings a e w ⊎ ((w ≡ a.word) × ((u : ℕ) → ¬ Brings a e u))

-- The write of a mode word is at control, and of a byte that has bit 7 set.
mode_write : (ph : Phase) → of_mode_word ph ≡ true → (ph ≡ Writing 3 (brought ph)) × (bit_of (brought ph) 7 ≡ true)
mode_write Idle mode = absurd (contrary false refl mode)
mode_write (Reading p) mode = absurd (contrary false refl mode)
mode_write (Writing x d) mode =
    let is = both (eqb x 3) (bit_of d 7) mode in
    (ap (λ (x : ℕ). Writing x d) (eqb-true x 3 is.0), is.1)

module _ (a : Surroundings) (e : Event) where
  -- An event of a kind brings a word: a reset does, and the end of such a write.
  abbrev changes : Kind → Bool
  changes reset = true
  changes (read_begun x) = false
  changes cycle_ended = of_mode_word a.phase
  changes (write_begun x d) = false
  changes (new_levels x d) = false
  changes unknown = false

  -- Any other brings none, and so the word stays.
  stays : (v : Kind) → kind_of e ≡ v → changes v ≡ false → Goes a e a.word
  stays v is without = inr (refl, none)
    where
      none : (u : ℕ) → ¬ Brings a e u
      none u b =
          ⊎_elim (λ r. contrary (changes (kind_of e)) (ap changes is ∙ without) (ap changes r.0))
          (λ k. contrary (changes (kind_of e)) (ap changes is ∙ without) (ap changes k.0 ∙ ap of_mode_word k.1 ∙ k.2)) b

  -- Whether the event is accepted or not, where its kind brings none.
  kept : (v : Kind) → kind_of e ≡ v → changes v ≡ false → (surroundings_after a v).word ≡ a.word
      → Goes a e (cond (accepts a.edition a.phase v) (surroundings_after a v) a).word
  kept v is without same =
      by_test (λ (s : Surroundings). Goes a e s.word) (accepts a.edition a.phase v) (surroundings_after a v) a
      (λ ok. subst (Goes a e) (sym same) (stays v is without)) (λ refused. stays v is without)

  -- The end of a cycle: of the write of a mode word, or of another.
  ended : kind_of e ≡ cycle_ended → (mode : Bool) → of_mode_word a.phase ≡ mode → Goes a e (cond mode (brought a.phase) a.word)
  ended is true mode = let k = mode_write a.phase mode in inl (inr (is, k.0, k.1))
  ended is false mode = stays cycle_ended is mode

  refused_end : (ph : Phase) → not (free ph) ≡ false → of_mode_word ph ≡ false
  refused_end Idle none = refl
  refused_end (Reading p) none = refl
  refused_end (Writing x d) none = absurd (contrary true none refl)

  by_name : (v : Kind) → kind_of e ≡ v → Goes a e (cond (accepts a.edition a.phase v) (surroundings_after a v) a).word
  by_name reset is = inl (inl (is, refl))
  by_name (read_begun x) is = kept (read_begun x) is refl refl
  by_name cycle_ended is =
      by_test (λ (s : Surroundings). Goes a e s.word) (not (free a.phase)) (surroundings_after a cycle_ended) a
      (λ ok. ended is (of_mode_word a.phase) refl) (λ none. stays cycle_ended is (refused_end a.phase none))
  by_name (write_begun x d) is = kept (write_begun x d) is refl refl
  by_name (new_levels x d) is = kept (new_levels x d) is refl refl
  by_name unknown is = stays unknown is refl

  goes : Goes a e (surroundings_next a e).word
  goes = by_name (kind_of e) refl

-- The word in force after a history is its last.
last_word : (a : Surroundings) (es : List Event) → LastWord a es (surroundings_over a es).word
last_word a [] = inr (refl, tt)
last_word a (e ∷ es) =
    ⊎_elim
    (λ (k : BroughtBy (surroundings_next a e) es (surroundings_over (surroundings_next a e) es).word). inl (record {
      before = e ∷ k.before;
      bringing = k.bringing;
      after = k.after;
      among = ap (λ (es : List Event). e ∷ es) k.among;
      brings = k.brings;
      last = k.last;
    }))
    (λ k. ⊎_elim
    (λ (brings : Brings a e (surroundings_next a e).word). inl (record {
      before = [];
      bringing = e;
      after = es;
      among = refl;
      brings = subst (Brings a e) (sym k.0) brings;
      last = k.1;
    }))
    (λ none. inr (k.0 ∙ none.0, (none.1, k.1))) (goes a e))
    (last_word (surroundings_next a e) es)

-- It has bit 7 set, where that of the beginning has.
mode_bit_lem : (a : Surroundings) (es : List Event) → bit_of a.word 7 ≡ true → bit_of (surroundings_over a es).word 7 ≡ true
unfolding bit_of
mode_bit_lem a [] set = set
mode_bit_lem a (e ∷ es) set = mode_bit_lem (surroundings_next a e) es
    (⊎_elim (λ b. ⊎_elim (λ r. rw r.1) (λ k. k.2) b) (λ k. ap (λ (w : ℕ). bit_of w 7) k.0 ∙ set) (goes a e))

-- The account has those surroundings.
over_surroundings : (a : Account) (es : List Event) → (over a es).surroundings ≡ surroundings_over a.surroundings es
over_surroundings a [] = refl
over_surroundings a (e ∷ es) = over_surroundings (account_next a e) es

reads_back : (c : Chip) (a : Account) (es : List Event) → Accounted c a es → bit_of a.surroundings.word 7 ≡ true → ReadsBack c a.surroundings es
reads_back c a es k set = record {
  word = (surroundings_over a.surroundings es).word;
  is_last = last_word a.surroundings es;
  mode_bit = mode_bit_lem a.surroundings es set;
  answered = λ d ok. read_answers_lem (run c es) 3 d ok ∙ k.reads 3 ∙ ap (λ (s : Surroundings). byte_by (bit_of s.word)) (over_surroundings a es);
}

-- From any chip, reached by a history or not.
pub read_back_from : (c : Chip) (es : List Event) → ReadsBack c (surroundings_here c) es
read_back_from c es = reads_back c (account_of c) es (accounted c (account_of c) es (agrees_of c)) (with_bit_7_set c.core.word)

-- From power-up, of either edition and under any levels: where no word was brought it is 9B.
pub read_back : (ed : Edition) (l : Levels) (es : List Event) → ReadsBack (power_up_as ed l) (at_power_up ed l) es
unfolding bit_of
read_back ed l es = read_back_from (power_up_as ed l) es
