-- What a call answered, where the definition of its answer goes step by step.
use Rattle.std.proofs.Common.{◌≡◌, ℕ, suc, List, [], ◌∷◌, length, Result, Ok, Err, refl, ap}
use Rattle.std.specs.Prelude.{IfOk}
use Rattle.std.specs.List.{AllByRecursion}
use Rattle.listed.specs.Faults.{Gives}
use Rattle.listed.specs.Lists.{each_from, AllFrom}
use Rattle.listed.specs.Steps.{◌>>=◌}
use Rattle.listed.specs.declared.fault.Fault.{Fault}
use Rattle.listed.specs.declared.fault.Fault.TheVariants.{Kind, Memory}

-- a fault of a step is that of what goes on from it
pub Gives-err : {X Y K : Type 0} (given : Result X K) (next : X → Result Y K) (e : Fault K) → Gives {X = X} (Err e) given → Gives {X = Y} (Err e) (given >>= next)
Gives-err given next (Kind kind) gives = rw gives refl
Gives-err given next Memory gives = tt

-- the same of any whole that the step's faults decide
pub Gives-err_whole : {X Y K : Type 0} (given : Result X K) (whole : Result Y K) (e : Fault K) → ((kind : K) → given ≡ Err kind → whole ≡ Err kind) → Gives {X = X} (Err e) given → Gives {X = Y} (Err e) whole
Gives-err_whole given whole (Kind kind) then gives = then kind gives
Gives-err_whole given whole Memory then gives = tt

-- what holds of what is given holds of the answer
pub IfOk-from_Gives : {X K : Type 0} (P : X → Type 0) (r : Result X (Fault K)) (given : Result X K) → Gives r given → IfOk given P → IfOk r P
IfOk-from_Gives P (Ok x) given gives holds = rw gives at holds
IfOk-from_Gives P (Err e) given gives holds = tt

-- a fact of the whole, from a fact of its first step
pub IfOk-step : {X Y K : Type 0} (P : X → Type 0) (Q : Y → Type 0) (given : Result X K) (next : X → Result Y K) → IfOk given P → ((x : X) → P x → IfOk (next x) Q) → IfOk (given >>= next) Q
IfOk-step P Q (Ok x) next first then = then x first
IfOk-step P Q (Err kind) next first then = tt

-- a fact of each member that is read, from one of what it gives at its place
pub IfOk-each_from : {A B K : Type 0} (gives : ℕ → A → Result B K) (P : ℕ → B → Type 0) → ((place : ℕ) (x : A) → IfOk (gives place x) (P place))
    → (place : ℕ) (xs : List A) → IfOk (each_from gives place xs) (AllFrom P place)
IfOk-each_from gives P each place [] = tt
IfOk-each_from gives P each place (x ∷ xs) =
    IfOk-step (P place) (AllFrom P place) (gives place x) (λ y. each_from gives (suc place) xs >>= λ ys. Ok (y ∷ ys)) (each place x) (λ y first.
    IfOk-step (AllFrom P (suc place)) (AllFrom P place) (each_from gives (suc place) xs) (λ ys. Ok (y ∷ ys)) (IfOk-each_from gives P each (suc place) xs) (λ ys rest. (first, rest)))

-- the same where the place doesn't count
pub IfOk-all_of : {A B K : Type 0} (gives : A → Result B K) (P : B → Type 0) → ((x : A) → IfOk (gives x) P)
    → (place : ℕ) (xs : List A) → IfOk (each_from (λ n. gives) place xs) (AllByRecursion P)
IfOk-all_of gives P each place [] = tt
IfOk-all_of gives P each place (x ∷ xs) =
    IfOk-step P (AllByRecursion P) (gives x) (λ y. each_from (λ n. gives) (suc place) xs >>= λ ys. Ok (y ∷ ys)) (each x) (λ y first.
    IfOk-step (AllByRecursion P) (AllByRecursion P) (each_from (λ n. gives) (suc place) xs) (λ ys. Ok (y ∷ ys)) (IfOk-all_of gives P each (suc place) xs) (λ ys rest. (first, rest)))

-- as many members are read as there are
pub IfOk-each_from_length : {A B K : Type 0} (gives : ℕ → A → Result B K) (place : ℕ) (xs : List A) → IfOk (each_from gives place xs) (λ ys. length ys ≡ length xs)
IfOk-each_from_length gives place [] = refl
IfOk-each_from_length {A} {B} gives place (x ∷ xs) =
    IfOk-step (λ _. Unit {0}) (λ (ys : List B). length ys ≡ suc (length xs)) (gives place x) (λ y. each_from gives (suc place) xs >>= λ ys. Ok (y ∷ ys)) (always (gives place x)) (λ y _.
    IfOk-step (λ (ys : List B). length ys ≡ length xs) (λ (ys : List B). length ys ≡ suc (length xs)) (each_from gives (suc place) xs) (λ ys. Ok (y ∷ ys)) (IfOk-each_from_length gives (suc place) xs) (λ ys is. ap suc is))
  where
    always : {X K : Type 0} (r : Result X K) → IfOk r (λ _. Unit {0})
    always (Ok x) = tt
    always (Err kind) = tt
