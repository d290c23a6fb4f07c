-- Whether a file declares a step other than a rule's own: that there are more declared steps than own ones decides it.
use Rattle.std.specs.Prelude.{Bool, true, false, not, cond, ◌≡◌, [], ◌∷◌, ℕ, ◌<◌, T, ltb, length}
use Rattle.std.proofs.Math.Path.{refl}
use Rattle.std.proofs.Common.{sym, subst, inl, inr, arith, eqb→eq, ltb→lt, lt→ltb}
use Rattle.std.proofs.Math.Dec.{eqb_refl}
use Rattle.lists.specs.Members.{Member}
use Rattle.lists.specs.Laws.Decides.{decides_not, decides_test, decides_equal}
use Rattle.lists.specs.Laws.Pigeonhole.{fresh}
use Rattle.template.specs.declared.Template.{Template}
use Rattle.template.specs.declared.Kind.TheVariants.{Other}
use Rattle.template.specs.declared.Kind.{Kind}
use Rattle.template.specs.Table.{lacks_y}
use Rattle.template.specs.Sequence.{is}
use Rattle.template.specs.Rule.{RuleOver}
use Rattle.template.specs.Standing.{kind_of}
use Rattle.template.proofs.Laws.Standing.{kind_x, kind_y, kind_other}
use Rattle.template.proofs.Laws.Settled.{RuleAmong}
use Rattle.rule.specs.declared.Rule.{Rule}
use Rattle.rule.specs.Good.{GoodRule}
use Rattle.rule.specs.Laws.Behaviour.{rule_over}
use Rattle.values.specs.Progress.{own_steps, has_other}

own_x : (b : Bool) (x y : ℕ) → Member x (cond b (x ∷ []) (x ∷ y ∷ []))
own_x true x y = inl refl
own_x false x y = inl refl

own_y : (b : Bool) (x y : ℕ) → T (not b) → Member y (cond b (x ∷ []) (x ∷ y ∷ []))
own_y true x y n = absurd n
own_y false x y n = inr (inl refl)

module _ (steps : ℕ) (r : Rule) (good : GoodRule steps r) where
  abbrev kind : ℕ → Kind
  kind = kind_of r.template (is r.x) (is r.y)

  some_other : T (has_other r steps) → (z : ℕ) × (z < steps) × (kind z ≡ Other)
  unfolding has_other
  some_other h =
      let t = r.template in
      let f = fresh (own_steps r) steps (ltb→lt (length (own_steps r)) steps h) in
      let z = f.0 in (
        z,
        f.1,
        kind_other t (is r.x) (is r.y) z
            (λ e. f.2 (subst (λ (k : ℕ). Member k (own_steps r)) (sym (eqb→eq z r.x e))
            (own_x (lacks_y t) r.x r.y)))
            (λ n e. f.2 (subst (λ (k : ℕ). Member k (own_steps r)) (sym (eqb→eq z r.y e))
            (own_y (lacks_y t) r.x r.y n))),
      )

  enough : (z : ℕ) → z < steps → kind z ≡ Other → T (has_other r steps)
  unfolding has_other
  enough z h e = go (lacks_y t) refl
    where
      t : Template
      t = r.template

      over : RuleOver (λ k. k < steps) t (is r.x) (is r.y)
      over = rule_over steps r good

      x_there : (r.x < steps) × ¬ (z ≡ r.x)
      x_there =
          let a = over.some_x in
          let q = eqb→eq a.0 r.x a.2 in (
            omega (arith, a.1),
            λ i.
                let k = kind_x t (is r.x) (is r.y) z ((decides_equal z r.x).complete i) in
                let n : ◌≡◌ {A = ℕ} 0 1 = cc in omega arith,
          )

      y_there : T (not (lacks_y t)) → (r.y < steps) × ¬ (z ≡ r.y) × ¬ (r.x ≡ r.y)
      y_there has =
          let b = over.some_y has in
          let q = eqb→eq b.0 r.y b.2 in (
            omega (arith, b.1),
            λ i.
                let k =
                kind_y t (is r.x) (is r.y) z ((decides_not (decides_test (lacks_y t))).sound has)
                (λ j. x_there.1 (eqb→eq z r.x j)) ((decides_equal z r.y).complete i) in
                let n : ◌≡◌ {A = ℕ} 0 1 = cc in omega arith,
            λ i. over.proper.apart has r.x (eqb_refl r.x) ((decides_equal r.x r.y).complete i),
          )

      go : (b : Bool) → lacks_y t ≡ b → T (ltb (length (cond b (r.x ∷ []) (r.x ∷ r.y ∷ []))) steps)
      go true q = lt→ltb 1 steps (omega (arith, x_there.0, x_there.1))
      go false q =
          let y = y_there (subst (λ (b : Bool). T (not b)) (sym q) tt) in
          lt→ltb 2 steps (omega (arith, x_there.0, x_there.1, y.0, y.1, y.2))

  -- a rule of a file among the declared steps
  pub rule_among : RuleAmong (λ k. k < steps) r.template (is r.x) (is r.y) (has_other r steps)
  rule_among =
      record {
        rule = rule_over steps r good;
        others = record { sound = some_other; complete = λ w. enough w.0 w.1 w.2 };
      }
