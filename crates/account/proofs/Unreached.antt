-- In states that no history reaches an output marked fetching counts as empty, and bit 7 of the mode word as set: nothing that is seen, over
-- any history, tells it from the other.
-- Rests on Words, Moves, Pins, Agrees, Accounted and SameTallies.
use Rattle.std.proofs.Common.{◌≡◌, ◌∙◌, refl, ap, sym, List, ℕ}
use Rattle.bus.specs.Event.{Event}
use Rattle.control.specs.declared.Group.{Group}
use Rattle.control.specs.declared.Group.TheVariants.{A, B}
use Rattle.chip.specs.declared.channel.Side.{Side}
use Rattle.chip.specs.declared.channel.Side.TheVariants.{Input, Output}
use Rattle.chip.specs.declared.channel.Fill.TheVariants.{Empty, Fetching}
use Rattle.chip.specs.declared.Chip.{Chip}
use Rattle.chip.specs.State.{channel_of, tally_of}
use Rattle.fates.specs.Promise.{run}
use Rattle.account.specs.Summary.{signal_at}
use Rattle.account.specs.Account.{Account}
use Rattle.account.specs.Promise.{with_bit7, surroundings_here, bit_here, account_of, Accounted}
use Rattle.account.specs.Unreached.{with_condition, with_word, SameSight}
use Rattle.account.proofs.Words.{signal_alike, with_bit_7_alike, with_bit_7_set}
use Rattle.account.proofs.Moves.{full, vacant, given}
use Rattle.account.proofs.Pins.{same_bit}
use Rattle.account.proofs.Agrees.{Agrees, agrees_of}
use Rattle.account.proofs.Accounted.{accounted}
use Rattle.account.proofs.SameTallies.{same_tallies}

-- Two chips that have the same tallies of each channel.
abbrev SameCounts : Chip → Chip → Type 0
SameCounts c c' = (g : Group) (s : Side) → tally_of c g s ≡ tally_of c' g s

-- Two chips that keep to one account.
same_sight : (c c' : Chip) (a : Account) (es : List Event) → Accounted c a es → Accounted c' a es → SameCounts (run c es) (run c' es) → SameSight c c' es
same_sight c c' a es k k' counts = record {
  number = λ e. k.number e ∙ sym (k'.number e);
  byte = λ e. k.byte e ∙ sym (k'.byte e);
  levels = λ p. k.levels p ∙ sym (k'.levels p);
  driven = λ p. k.driven p ∙ sym (k'.driven p);
  reads = λ p. k.reads p ∙ sym (k'.reads p);
  interrupt = λ g. k.interrupt g ∙ sym (k'.interrupt g);
  tallies = counts;
  explains = λ n. k.explains n ∙ sym (k'.explains n);
}

-- So it is with a chip that agrees with another's account, and has its tallies.
same_account : (c c' : Chip) → Agrees c' (account_of c) → SameCounts c c' → (es : List Event) → SameSight c c' es
same_account c c' k counts es =
    same_sight c c' (account_of c) es (accounted c (account_of c) es (agrees_of c)) (accounted c' (account_of c) es k)
    (λ g s. same_tallies g s es c c' (account_of c) (agrees_of c) k (counts g s))

-- What the account has of a group's channels is the same.
record SameChannels (c c' : Chip) (h : Group) : Type 0 where
  output : (channel_of c.core h Output).latch ≡ (channel_of c'.core h Output).latch
  input : (channel_of c.core h Input).latch ≡ (channel_of c'.core h Input).latch
  ibf : full (channel_of c.core h Input) ≡ full (channel_of c'.core h Input)
  obf : vacant (channel_of c.core h Output) ≡ vacant (channel_of c'.core h Output)
  given : given (channel_of c.core h Input) ≡ given (channel_of c'.core h Input)

-- One chip's account agrees with another that has the same surroundings, bits and channels.
agrees_like : (c c' : Chip) → surroundings_here c ≡ surroundings_here c' → ((n : ℕ) → signal_at (with_bit7 c.core.word) n ≡ signal_at c'.core.word n)
    → c.core.c.latch ≡ c'.core.c.latch → c.core.inte ≡ c'.core.inte → ((h : Group) → SameChannels c c' h) → Agrees c' (account_of c)
agrees_like c c' surroundings signals latch enables same = record {
  surroundings = surroundings;
  bit = λ n hn. same_bit c.core c'.core latch enables n (signal_at (with_bit7 c.core.word) n) ∙ ap (bit_here c'.core n) (signals n);
  output = λ h. (same h).output;
  input = λ h. (same h).input;
  ibf = λ h. (same h).ibf;
  obf = λ h. (same h).obf;
  given = λ h. (same h).given;
  even = (agrees_of c).even;
}

signals_here : (c : Chip) (n : ℕ) → signal_at (with_bit7 c.core.word) n ≡ signal_at c.core.word n
signals_here c = signal_alike (with_bit7 c.core.word) c.core.word (with_bit_7_alike c.core.word)

-- An output marked fetching, and the same output empty.
same_channels : (c : Chip) (g h : Group) → SameChannels (with_condition c g Fetching) (with_condition c g Empty) h
same_channels c A A = record { output = refl; input = refl; ibf = refl; obf = refl; given = refl }
same_channels c A B = record { output = refl; input = refl; ibf = refl; obf = refl; given = refl }
same_channels c B A = record { output = refl; input = refl; ibf = refl; obf = refl; given = refl }
same_channels c B B = record { output = refl; input = refl; ibf = refl; obf = refl; given = refl }

agrees_empty : (c : Chip) (g : Group) → Agrees (with_condition c g Empty) (account_of (with_condition c g Fetching))
agrees_empty c A = agrees_like (with_condition c A Fetching) (with_condition c A Empty) refl (signals_here c) refl refl (same_channels c A)
agrees_empty c B = agrees_like (with_condition c B Fetching) (with_condition c B Empty) refl (signals_here c) refl refl (same_channels c B)

counts_empty : (c : Chip) (g : Group) → SameCounts (with_condition c g Fetching) (with_condition c g Empty)
counts_empty c A A Input = refl
counts_empty c A A Output = refl
counts_empty c A B s = refl
counts_empty c B A s = refl
counts_empty c B B Input = refl
counts_empty c B B Output = refl

pub mark_unseen : (c : Chip) (g : Group) (es : List Event) → SameSight (with_condition c g Fetching) (with_condition c g Empty) es
mark_unseen c g = same_account (with_condition c g Fetching) (with_condition c g Empty) (agrees_empty c g) (counts_empty c g)

-- A word with bit 7 counted as set.
pub bit_7_unseen : (c : Chip) (w : ℕ) (es : List Event) → SameSight (with_word c w) (with_word c (with_bit7 w)) es
bit_7_unseen c w =
    same_account (with_word c w) (with_word c (with_bit7 w))
    (agrees_like (with_word c w) (with_word c (with_bit7 w)) (rw (with_bit_7_set w)) (λ n. refl) refl refl same) counts
  where
    counts : SameCounts (with_word c w) (with_word c (with_bit7 w))
    counts A s = refl
    counts B s = refl

    same : (h : Group) → SameChannels (with_word c w) (with_word c (with_bit7 w)) h
    same A = record { output = refl; input = refl; ibf = refl; obf = refl; given = refl }
    same B = record { output = refl; input = refl; ibf = refl; obf = refl; given = refl }
