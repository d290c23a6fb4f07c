-- The table of moves of a ranked file is that of the file's rules.
use Rattle.std.specs.Prelude.{◌≡◌, List, ℕ}
use Rattle.std.proofs.Common.{ap, ◌∙◌}
use Rattle.rule_file.specs.Held.{held_file}
use Rattle.rule_file.specs.Contents.{rules_of}
use Rattle.ranking.specs.declared.RankedFile.{RankedFile}
use Rattle.ranking.specs.Ranked.{ranked_file}
use Rattle.joint.specs.Code.Table.{table_of}
use Rattle.joint.proofs.Laws.TableLaws.{table_padded}

-- the file's table of moves
pub table_is : (bs : List ℕ) (r : RankedFile) → r ≡ ranked_file bs → table_of r.file.rules ≡ table_of (rules_of bs)
unfolding ranked_file held_file
table_is bs r e = ap (λ (q : RankedFile). table_of q.file.rules) e ∙ table_padded (rules_of bs) 32
