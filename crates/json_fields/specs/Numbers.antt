-- Numbers in a JSON value: as a number, as a text of decimal digits, and as an address.
use Rattle.std.specs.Prelude.{ℕ, List, [], ◌∷◌, length, take, drop, ◌&&◌, ◌==◌, Bool, false, not, if◌then◌else◌, Option, Some, None, nat_lt, nat_le, option_and_then, bytes_eq, codes, ◌≡◌, ◌^◌, refl, negsuc, Float}
use Rattle.std.specs.Char.{digit_value, is_ascii_digit}
use Rattle.std.specs.List.{list_all}
use Rattle.std.specs.Str.Parse.{digits_value}
use Rattle.serde_json.specs.Data.{Data, number, string, unsigned, negative, float}
use Rattle.serde_json.specs.Find.{as_number, as_str, as_u64}

-- the number, if it lies in the range, its two ends included
abbrev pub within : ℕ → ℕ → ℕ → Option ℕ
within low high n = if nat_le low n && nat_le n high then Some n else None

-- The whole number from low to high that the value is. What serde_json reads as a float is none:
-- 1.0, -0 and integers past 64 bits.
abbrev pub whole_in : ℕ → ℕ → Data → Option ℕ
whole_in low high d = option_and_then (within low high) (option_and_then as_u64 (as_number d))

-- decimal digits, with no 0 before another
abbrev pub is_digits : List ℕ → Bool
is_digits [] = false
is_digits (c ∷ []) = is_ascii_digit c
is_digits (c ∷ next ∷ rest) = not (c == 48) && list_all is_ascii_digit (c ∷ next ∷ rest)

-- the number below the limit that the text writes in decimal digits
abbrev pub digits_below : ℕ → List ℕ → Option ℕ
digits_below limit text = if is_digits text && nat_lt (digits_value 10 text) limit then Some (digits_value 10 text) else None

-- the same of a value that is a text
abbrev pub digits_in : ℕ → Data → Option ℕ
digits_in limit d = option_and_then (digits_below limit) (as_str d)

-- `0x`, and one to eight hexadecimal digits
abbrev pub is_address : List ℕ → Bool
is_address text = bytes_eq (take 2 text) (codes "0x") && nat_lt 2 (length text) && nat_le (length text) 10 && list_all (λ c. nat_lt (digit_value c) 16) (drop 2 text)

-- the address that the text writes
abbrev pub address_of : List ℕ → Option ℕ
address_of text = if is_address text then Some (digits_value 16 (drop 2 text)) else None

-- the same of a value that is a text
abbrev pub address_in : Data → Option ℕ
address_in d = option_and_then address_of (as_str d)

one_is_whole : whole_in 1 9 (number (unsigned 1)) ≡ Some 1
one_is_whole = refl

ten_is_past_nine : whole_in 1 9 (number (unsigned 10)) ≡ None
ten_is_past_nine = refl

below_zero : whole_in 0 9 (number (negative (negsuc 0))) ≡ None
below_zero = refl

-- 1.0 and -0 are read as floats
floats_are_not_whole : (x : Float) → whole_in 0 9 (number (float x)) ≡ None
floats_are_not_whole x = refl

text_is_not_whole : whole_in 0 9 (string (codes "1")) ≡ None
text_is_not_whole = refl

nought : digits_in 1 (string (codes "0")) ≡ Some 0
nought = refl

large : digits_in (2 ^ 120) (string (codes "604462909807314587353088")) ≡ Some (2 ^ 79)
large = refl

leading_zero : digits_in 100 (string (codes "07")) ≡ None
leading_zero = refl

signed : digits_in 100 (string (codes "+7")) ≡ None
signed = refl

nothing_written : digits_in 100 (string []) ≡ None
nothing_written = refl

at_the_limit : digits_in 100 (string (codes "100")) ≡ None
at_the_limit = refl

upper_and_lower : address_in (string (codes "0xfF")) ≡ Some 255
upper_and_lower = refl

greatest_address : address_in (string (codes "0xffffffff")) ≡ Some 4294967295
greatest_address = refl

nine_digits : address_in (string (codes "0x000000001")) ≡ None
nine_digits = refl

no_prefix : address_in (string (codes "100")) ≡ None
no_prefix = refl

large_x : address_in (string (codes "0X10")) ≡ None
large_x = refl

no_digits : address_in (string (codes "0x")) ≡ None
no_digits = refl
