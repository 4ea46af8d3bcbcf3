-- Two chips alike in what belongs to a group: what the events of the group, and all that is seen of it, depend on.
-- Rests on nothing.
use Rattle.std.proofs.Common.{◌≡◌, ◌∙◌, refl, ap, sym, true, ℕ, ◌<◌, arith, lit<, ltb-true, lt-ltb, le-ltb}
use Rattle.bits.specs.Bit.{bit_of}
use Rattle.control.specs.declared.Group.{Group}
use Rattle.control.specs.declared.Group.TheVariants.{A, B}
use Rattle.chip.specs.declared.channel.Side.{Side}
use Rattle.chip.specs.declared.channel.Side.TheVariants.{Input, Output}
use Rattle.chip.specs.declared.Port.{Port}
use Rattle.chip.specs.declared.Core.{Core}
use Rattle.chip.specs.declared.Chip.{Chip}
use Rattle.chip.specs.State.{port_of}
use Rattle.chip.specs.Handshakes.{line_pin, group_at, enable_of, running}
use Rattle.groups.specs.Belongings.{its_pin}

-- Two bytes have the same bits at the group's pins.
abbrev pub SameAt : Group → ℕ → ℕ → Type 0
SameAt g x y = (n : ℕ) → n < 8 → its_pin g n ≡ true → bit_of x n ≡ bit_of y n

-- The same mode word, port, enables, and bits of the group's pins.
pub record Alike (g : Group) (c' c : Core) : Type 0 where
  pub word : c'.word ≡ c.word
  pub port : port_of c' g ≡ port_of c g
  pub enables : (s : Side) → enable_of c'.inte g s ≡ enable_of c.inte g s
  pub latch : SameAt g c'.c.latch c.c.latch
  pub lines : SameAt g c'.c.outside c.c.outside

pub alike_same : (g : Group) (c : Core) → Alike g c c
alike_same g c = record { word = refl; port = refl; enables = λ s. refl; latch = λ n small its. refl; lines = λ n small its. refl }

pub alike_then : {g : Group} {c'' c' c : Core} → Alike g c'' c' → Alike g c' c → Alike g c'' c
alike_then k l = record {
  word = k.word ∙ l.word;
  port = k.port ∙ l.port;
  enables = λ s. k.enables s ∙ l.enables s;
  latch = λ n small its. k.latch n small its ∙ l.latch n small its;
  lines = λ n small its. k.lines n small its ∙ l.lines n small its;
}

pub alike_back : {g : Group} {c' c : Core} → Alike g c' c → Alike g c c'
alike_back k = record {
  word = sym k.word;
  port = sym k.port;
  enables = λ s. sym (k.enables s);
  latch = λ n small its. sym (k.latch n small its);
  lines = λ n small its. sym (k.lines n small its);
}

-- Whole chips: the same cycle of the group's port runs in both, or none.
pub record AlikeOnBus (g : Group) (c' c : Chip) : Type 0 where
  pub core : Alike g c'.core c.core
  pub cycle : (s : Side) → running c'.phase g s ≡ running c.phase g s

-- A port is its two channels and the levels outside.
pub port_by_parts : (p q : Port) → p.input ≡ q.input → p.output ≡ q.output → p.outside ≡ q.outside → p ≡ q
port_by_parts p q i o l =
    ap (λ x. record { input = x; output = p.output; outside = p.outside }) i
    ∙ ap (λ x. record { input = q.input; output = x; outside = p.outside }) o
    ∙ ap (λ x. record { input = q.input; output = q.output; outside = x }) l

-- Where both ports are the same, each group's is.
pub port_same : (c' c : Core) → c'.a ≡ c.a → c'.b ≡ c.b → (g : Group) → port_of c' g ≡ port_of c g
port_same c' c a b A = a
port_same c' c a b B = b

-- STB and ACK of a group come in at its own pins.
pub line_same : (g : Group) (x y : ℕ) → SameAt g x y → (s : Side) → bit_of x (line_pin g s) ≡ bit_of y (line_pin g s)
line_same A x y same Input = same 4 (lit< tt) refl
line_same A x y same Output = same 6 (lit< tt) refl
line_same B x y same s = same 2 (lit< tt) refl

-- The signals at a group's pin are the group's.
pub at_its_pin : (g : Group) (n : ℕ) → its_pin g n ≡ true → group_at n ≡ g
at_its_pin A n its = let above = ltb-true _ n its in rw (le-ltb n 3 (omega (arith, above)))
at_its_pin B n its = let below = ltb-true n _ its in rw (lt-ltb n 3 (omega (arith, below)))
