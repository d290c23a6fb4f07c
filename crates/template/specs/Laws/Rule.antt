-- The steps of a plain rule make it a rule over the declared steps.
use Rattle.std.specs.Prelude.{◌≡◌, ℕ, ◌≤◌}
use Rattle.std.proofs.Common.{sym, ◌∙◌}
use Rattle.std.proofs.Math.Dec.{eqb_refl}
use Rattle.lists.specs.Laws.Decides.{decides_equal}
use Rattle.template.specs.Sequence.{is}
use Rattle.template.specs.Rule.{Apart, Proper, RuleOver}
use Rattle.template.specs.declared.Template.{Template}
use Rattle.template.specs.Number.{count}
use Rattle.template.specs.Table.{HasY}

-- two different steps
pub apart_steps : (x y : ℕ) → ¬ (x ≡ y) → Apart (is x) (is y)
apart_steps x y d z a b = d (sym ((decides_equal z x).sound a) ∙ (decides_equal z y).sound b)

pub proper_steps : (t : Template) (x y : ℕ) → (HasY t → ¬ (x ≡ y)) → count t ≤ 14 → Proper t (is x) (is y)
proper_steps t x y e n = record { apart = λ h. apart_steps x y (e h); few = n }

-- a plain rule: x and, where the template has one, another y
pub plain_rule : {d : ℕ → Type 0} (t : Template) (x y : ℕ) → d x → (HasY t → d y) → (HasY t → ¬ (x ≡ y)) → count t ≤ 14
    → RuleOver d t (is x) (is y)
plain_rule t x y a b e n =
    record {
      some_x = (x, a, eqb_refl x);
      some_y = λ h. (y, b h, eqb_refl y);
      proper = proper_steps t x y e n;
    }
