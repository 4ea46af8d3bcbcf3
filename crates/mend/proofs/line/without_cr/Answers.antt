-- `line::without_cr` meets its contract, by what a suffix leaves of the line.
-- Rests on Dropping.
use Rattle.std.proofs.Common.{◌∙◌, ap, Bor, List, ℕ, [], ◌∷◌}
use Rattle.std.proofs.lemmas.Bool.Decides.{Decides-eqb}
use Rattle.std.proofs.lemmas.Slice.Eq.{strip_suffix_is}
use Rattle.mend.specs.Line.{cr}
use Rattle.mend.proofs.Dropping.{stripped}
use Rattle.mend.proofs.line.without_cr.Goals as goal

pub returns : goal.returns
returns c =
    let line = c.args.line in
    ap (λ (b : Bor (List ℕ)). b.now) c.unwrap_or.ensures
    ∙ stripped line c.strip_suffix.result (strip_suffix_is Decides-eqb line.now (cr ∷ []) c.strip_suffix.result c.strip_suffix.ensures.cases)
