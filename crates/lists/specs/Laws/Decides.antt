-- A Boolean test that decides a statement, and the tests that decide what is made of decided statements.
use Rattle.std.specs.Prelude.{Bool, true, false, not, cond, ◌&&◌, ◌||◌, ◌≡◌, refl, ◌⊎◌, ◌↔◌, ℕ, ◌≤◌, T, eqb, leb}
use Rattle.std.specs.Bool.{beq}
use Rattle.std.proofs.Common.{sym, ap, ◌∙◌, subst, inl, inr, ⊎_elim, lit≤, eqb→eq, leb→le, le→leb}
use mir.Val.{bool_byte}
use Rattle.std.proofs.Math.Dec.{eqb_refl}
use Rattle.lists.specs.Decides.{Decides, Wanted}

-- a test that passes is true, and one of a statement that does not hold is false
pub passes : (b : Bool) → T b → b ≡ true
passes true t = refl
passes false t = absurd t

pub fails : (b : Bool) {P : Type 0} → Decides b P → ¬ P → b ≡ false
fails true i n = absurd (n (i.sound tt))
fails false i n = refl

-- what the outcome of a test says of the statement
pub holds : {b : Bool} {P : Type 0} → Decides b P → b ≡ true → P
holds i e = i.sound (subst T (sym e) tt)

pub holds_not : {b : Bool} {P : Type 0} → Decides b P → b ≡ false → ¬ P
holds_not i e p = subst T e (i.complete p)

-- what holds of both holds of the one that a test chooses
pub either_way : {A : Type 0} (P : A → Type 0) (b : Bool) {x y : A} → P x → P y → P (cond b x y)
either_way P true p q = p
either_way P false p q = q

-- a Boolean turned into a number is 1 or 0
pub byte_flag : (b : Bool) → bool_byte b ≡ cond b 1 0
byte_flag true = refl
byte_flag false = refl

-- 1 or 0 tells the Boolean
pub flag_set : (b : Bool) → eqb (cond b 1 0) 1 ≡ b
flag_set true = refl
flag_set false = refl

pub flag_same : (a b : Bool) → ◌≡◌ {A = ℕ} (cond a 1 0) (cond b 1 0) → a ≡ b
flag_same a b e = sym (flag_set a) ∙ ap (λ (n : ℕ). eqb n 1) e ∙ flag_set b

pub flag_low : (b : Bool) → cond b 1 0 ≤ 1
flag_low b = either_way (λ v. v ≤ 1) b (lit≤ tt) (lit≤ tt)

pub byte_low : (b : Bool) → bool_byte b ≤ 1
byte_low true = lit≤ tt
byte_low false = lit≤ tt

-- two tests of one statement are equal
pub decides_one : (a b : Bool) {P : Type 0} → Decides a P → Decides b P → a ≡ b
decides_one true true i j = refl
decides_one true false i j = absurd (j.complete (i.sound tt))
decides_one false true i j = absurd (i.complete (j.sound tt))
decides_one false false i j = refl

pub decides_test : (b : Bool) → Decides b (T b)
decides_test b = record { sound = λ t. t; complete = λ t. t }

pub decides_not : {b : Bool} {P : Type 0} → Decides b P → Decides (not b) (¬ P)
decides_not {b = true} i = record { sound = λ t p. t; complete = λ n. n (i.sound tt) }
decides_not {b = false} i = record { sound = λ t p. i.complete p; complete = λ n. tt }

pub decides_and : {a b : Bool} {P Q : Type 0} → Decides a P → Decides b Q → Decides (a && b) (P × Q)
decides_and {a = true} i j = record { sound = λ t. (i.sound tt, j.sound t); complete = λ r. j.complete r.1 }
decides_and {a = false} i j = record { sound = λ t. absurd t; complete = λ r. i.complete r.0 }

pub decides_or : {a b : Bool} {P Q : Type 0} → Decides a P → Decides b Q → Decides (a || b) (P ⊎ Q)
decides_or {a = true} i j = record { sound = λ t. inl (i.sound tt); complete = λ r. tt }
decides_or {a = false} i j =
    record { sound = λ t. inr (j.sound t); complete = ⊎_elim (λ p. absurd (i.complete p)) j.complete }

pub decides_implies : {a b : Bool} {P Q : Type 0} → Decides a P → Decides b Q → Decides (not a || b) (P → Q)
decides_implies {a = true} i j = record { sound = λ t p. j.sound t; complete = λ r. j.complete (r (i.sound tt)) }
decides_implies {a = false} i j = record { sound = λ t p. absurd (i.complete p); complete = λ r. tt }

pub decides_iff : {b : Bool} {P Q : Type 0} → P ↔ Q → Decides b P → Decides b Q
decides_iff e i = record { sound = λ t. e.0 (i.sound t); complete = λ q. i.complete (e.1 q) }

pub decides_equal : (m n : ℕ) → Decides (eqb m n) (m ≡ n)
decides_equal m n = record { sound = eqb→eq m n; complete = λ e. subst (λ (k : ℕ). T (eqb m k)) e (eqb_refl m) }

pub decides_le : (m n : ℕ) → Decides (leb m n) (m ≤ n)
decides_le m n = record { sound = leb→le m n; complete = le→leb m n }

pub decides_same : (a b : Bool) → Decides (beq a b) (a ≡ b)
decides_same true true = record { sound = λ t. refl; complete = λ e. tt }
decides_same true false = record { sound = λ t. absurd t; complete = λ e. subst T e tt }
decides_same false true = record { sound = λ t. absurd t; complete = λ e. subst (λ (b : Bool). T (not b)) e tt }
decides_same false false = record { sound = λ t. refl; complete = λ e. tt }

pub bool_discrete : (a b : Bool) → Dec (a ≡ b)
bool_discrete a b = go (beq a b) refl
  where
    go : (c : Bool) → beq a b ≡ c → Dec (a ≡ b)
    go true e = yes (holds (decides_same a b) e)
    go false e = no (holds_not (decides_same a b) e)

pub decides_wanted : {b : Bool} {P : Type 0} → Decides b P → (wanted : Bool)
    → Decides (beq b wanted) (Wanted wanted P)
decides_wanted {b} i true = decides_iff (holds i, λ p. passes b (i.complete p)) (decides_same b true)
decides_wanted {b} i false = decides_iff (holds_not i, fails b i) (decides_same b false)
