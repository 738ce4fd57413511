-- Where tasks stand, one after another.
use Rattle.std.proofs.Common.{◌≡◌, ℕ, zero, suc, ◌+◌, ◌<◌, ◌≤◌, min, List, [], ◌∷◌, ◌++◌, length, take, get_or, Option, refl, ap, add-one, arith}
use Rattle.osek_kernel.specs.declared.kernel.Active.{Active}
use Rattle.scheduler_moves.specs.Composed.{task_at, tasks_at}

by_suc : (actives : List (Option Active)) (blocks : List (Option ℕ)) (i : ℕ) (a : Option Active) (b : Option ℕ) → i < length actives → i < length blocks
    → a ≡ get_or actives i a → b ≡ get_or blocks i b
    → tasks_at (take (suc i) actives) (take (suc i) blocks) ≡ tasks_at (take i actives) (take i blocks) ++ task_at a b ∷ []
by_suc (x ∷ xs) (y ∷ ys) zero a b h k at too = rw (at, too) refl
by_suc (x ∷ xs) (y ∷ ys) (suc i) a b h k at too = ap (λ rest. task_at x y ∷ rest) (by_suc xs ys i a b (omega arith) (omega arith) at too)
by_suc [] ys i a b h k at too = absurd (omega arith)
by_suc (x ∷ xs) [] i a b h k at too = absurd (omega arith)

-- one task more
pub tasks_more : (actives : List (Option Active)) (blocks : List (Option ℕ)) (i : ℕ) (a : Option Active) (b : Option ℕ) → i < length actives
    → i < length blocks
    → a ≡ get_or actives i a → b ≡ get_or blocks i b
    → tasks_at (take (i + 1) actives) (take (i + 1) blocks) ≡ tasks_at (take i actives) (take i blocks) ++ task_at a b ∷ []
tasks_more actives blocks i a b h k at too = rw add-one (by_suc actives blocks i a b h k at too)

-- the shorter list decides
pub tasks_all : (actives : List (Option Active)) (blocks : List (Option ℕ)) (n : ℕ) → min (length actives) (length blocks) ≤ n
    → tasks_at (take n actives) (take n blocks) ≡ tasks_at actives blocks
tasks_all [] ys zero h = refl
tasks_all [] ys (suc n) h = refl
tasks_all (x ∷ xs) [] zero h = refl
tasks_all (x ∷ xs) [] (suc n) h = refl
tasks_all (x ∷ xs) (y ∷ ys) zero h = absurd (omega arith)
tasks_all (x ∷ xs) (y ∷ ys) (suc n) h = ap (λ rest. task_at x y ∷ rest) (tasks_all xs ys n (omega arith))
