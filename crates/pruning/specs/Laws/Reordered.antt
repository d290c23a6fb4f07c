-- Equal rules of files with reordered rules get the same fates as a collection (M-104): the rules of the one file, each
-- with its five bytes in a verdict area that meets the demand, are those of the other, permuted (`reordered_verdicts`).
-- It follows from the equal lists in the order of decision (`reordered_reports`).
use Rattle.std.specs.Prelude.{Bool, List, map, ◌≡◌, ℕ, length}
use Rattle.std.proofs.lemmas.Simd.{map-map}
use Rattle.std.proofs.Common.{sym, ap, ◌∙◌, subst}
use Rattle.lists.specs.Laws.Members.{map_same}
use Rattle.lists.specs.Laws.Permuted.{permuted_sym, permuted_trans, permuted_map, permuted_count, ranked_permuted}
use Rattle.lists.specs.Parts.{filter}
use Rattle.lists.specs.Permuted.{Permuted, one_to}
use Rattle.rule.specs.Behaviour.{rule_at}
use Rattle.rule.specs.declared.Rule.{Rule}
use Rattle.rule_file.specs.Contents.{rules_of}
use Rattle.ranking.proofs.Laws.Ranked.{decision_order_lem}
use Rattle.ranking.specs.Ranked.{decision_order}
use Rattle.ranking.specs.Reordered.{Reordered}
use Rattle.deciding.proofs.Laws.Reordered.{reordered_reports}
use Rattle.deciding.specs.Reports.{reported, decided_reports}
use Rattle.deciding.specs.declared.Report.{Report}
use Rattle.verdicts.specs.Verdict.{report_bytes, bytes_of_rule, rules_with_bytes}
use Rattle.pruning.specs.Laws.Verdict.{bytes_only}
use Rattle.pruning.specs.Prunes.{ThirdDemand}

abbrev with_bytes : Rule × Report → Rule × List ℕ
with_bytes p = (p.0, report_bytes p.1)

-- the rules with their bytes are, permuted, those in the order of decision with the bytes of their reports
decided_bytes : (bs area : List ℕ) → ThirdDemand bs area
    → Permuted (map with_bytes (decided_reports bs)) (rules_with_bytes bs area)
decided_bytes bs area d =
    let order = decision_order bs in
    let ranked = decision_order_lem bs in
    let say : ℕ → Rule × List ℕ = λ n. (rule_at (rules_of bs) n, bytes_of_rule area n) in
    subst (λ (l : List (Rule × List ℕ)). Permuted l (rules_with_bytes bs area))
    (map_same say (λ n. with_bytes (rule_at (rules_of bs) n, reported bs n)) order
    (λ n i.
    let m = (ranked.members n).0 i in
    ap (λ (l : List ℕ). (rule_at (rules_of bs) n, l)) (bytes_only bs area d n m.0 m.1))
    ∙ sym (map-map with_bytes (λ n. (rule_at (rules_of bs) n, reported bs n)) order))
    (permuted_map say order (one_to (length (rules_of bs))) (ranked_permuted ranked))

module _ (bs cs v w : List ℕ) (q : Reordered bs cs) (d : ThirdDemand bs v) (e : ThirdDemand cs w) where
  pub reordered_verdicts : Permuted (rules_with_bytes bs v) (rules_with_bytes cs w)
  reordered_verdicts =
      let l = map with_bytes (decided_reports bs) in
      permuted_trans (rules_with_bytes bs v) l (rules_with_bytes cs w)
      (permuted_sym l (rules_with_bytes bs v) (decided_bytes bs v d))
      (subst (λ (r : List (Rule × Report)). Permuted (map with_bytes r) (rules_with_bytes cs w))
      (sym (reordered_reports bs cs q)) (decided_bytes cs w e))

  -- so for any test of a rule and its five bytes, as that it is this rule with this fate, as many pass it
  pub reordered_count : (test : Rule × List ℕ → Bool)
      → length (filter test (rules_with_bytes bs v)) ≡ length (filter test (rules_with_bytes cs w))
  reordered_count test = permuted_count test (rules_with_bytes bs v) (rules_with_bytes cs w) reordered_verdicts
