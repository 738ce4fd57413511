-- Words on lists.
use Rattle.std.specs.Prelude.{ℕ, suc, Bool, true, false, not, ◌&&◌, List, [], ◌∷◌, Result, Ok, Err, nat_eq, nat_lt, if◌then◌else◌, ◌≡◌, refl}
use Rattle.std.specs.List.{list_any}
use Rattle.listed.specs.Steps.{◌>>=◌}

-- no member is the same as another
abbrev pub differ : {A : Type 0} → (A → A → Bool) → List A → Bool
differ same [] = true
differ same (x ∷ xs) = not (list_any (same x) xs) && differ same xs

-- what each member is by what it gives at its place, counted from a place on, or the kind of the
-- first fault
abbrev pub each_from : {A B K : Type 0} → (ℕ → A → Result B K) → ℕ → List A → Result (List B) K
each_from gives place [] = Ok []
each_from gives place (x ∷ xs) = do
  y ← gives place x
  ys ← each_from gives (suc place) xs
  Ok (y ∷ ys)

-- the same, where a member's place doesn't count
abbrev pub all_of : {A B K : Type 0} → (A → Result B K) → List A → Result (List B) K
all_of gives xs = each_from (λ place. gives) 0 xs

-- a fact of each member and its place, counted from a place on
abbrev pub AllFrom : {A : Type 0} → (ℕ → A → Type 0) → ℕ → List A → Type 0
AllFrom P place [] = Unit {0}
AllFrom P place (x ∷ xs) = P place x × AllFrom P (suc place) xs

second_is_the_first : differ nat_eq (1 ∷ 1 ∷ []) ≡ false
second_is_the_first = refl

first_is_the_third : differ nat_eq (1 ∷ 2 ∷ 1 ∷ []) ≡ false
first_is_the_third = refl

three_numbers : differ nat_eq (1 ∷ 2 ∷ 3 ∷ []) ≡ true
three_numbers = refl

-- the number, where it is below 4
below_four : ℕ → Result ℕ ℕ
below_four n = if nat_lt n 4 then Ok n else Err n

two_below_four : all_of below_four (3 ∷ 2 ∷ []) ≡ Ok (3 ∷ 2 ∷ [])
unfolding below_four
two_below_four = refl

first_fault : all_of below_four (3 ∷ 5 ∷ 4 ∷ []) ≡ Err 5
unfolding below_four
first_fault = refl
