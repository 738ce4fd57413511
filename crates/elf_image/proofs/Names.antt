-- How a name that ends before a zero byte is compared with a text, byte by byte.
use Rattle.std.proofs.Common.{◌≡◌, ◌≢◌, ℕ, suc, ◌+◌, ◌<◌, Bool, true, false, not, ◌==◌, cond, List, [], ◌∷◌, ◌++◌, length, get_or, drop, take_while, bytes_eq, refl, add-one, drop-cons, arith}
use Rattle.std.proofs.lemmas.List.Sums.{take_while-cons}

-- the name at the front of a text
abbrev pub front : List ℕ → List ℕ
front text = take_while (λ byte. not (byte == 0)) text

agree_at_head : (b : ℕ) (text word : List ℕ) → b ≢ 0 → bytes_eq (front (b ∷ text)) (b ∷ word) ≡ bytes_eq (front text) word
agree_at_head b text word h = rw (take_while-cons (λ byte. not (byte == 0)) b text) (grind arith)

pub agree : (text part more : List ℕ) (i : ℕ) → i < length text → i < length part → get_or part i 0 ≢ 0 → get_or text i 0 ≡ get_or part i 0
    → bytes_eq (front (drop i text)) (drop i part ++ more) ≡ bytes_eq (front (drop (i + 1) text)) (drop (i + 1) part ++ more)
agree text part more i in_text in_part some same =
    rw (add-one, drop-cons text i 0 in_text, drop-cons part i 0 in_part, same)
    (agree_at_head (get_or part i 0) (drop (suc i) text) (drop (suc i) part ++ more) some)

-- a name ends where the text does, or before a zero byte
pub ends_with_text : (text : List ℕ) → length text ≡ 0 → bytes_eq (front text) [] ≡ true
ends_with_text [] h = refl
ends_with_text (t ∷ text) h = absurd (omega arith)

pub ends_at_zero : (text : List ℕ) → length text ≢ 0 → (get_or text 0 0 == 0) ≡ bytes_eq (front text) []
ends_at_zero [] h = absurd (h refl)
ends_at_zero (t ∷ text) h = rw (take_while-cons (λ byte. not (byte == 0)) t text) (by_test (t == 0))
  where
    by_test : (b : Bool) → b ≡ bytes_eq (cond (not b) (t ∷ front text) []) []
    by_test true = refl
    by_test false = refl
