-- The kinds of bytes of an OIL text.
use Rattle.std.specs.Prelude.{ℕ, ◌-◌, ◌==◌, ◌&&◌, ◌||◌, nat_le, Bool, List, [], ◌∷◌, Option, Some, None, if◌then◌else◌}

-- a space, a tab, a carriage return or a newline
abbrev pub is_white : ℕ → Bool
is_white b = (b == 32) || (b == 9) || (b == 13) || (b == 10)

-- a letter of ASCII, or `_`
abbrev pub is_letter : ℕ → Bool
is_letter b = (nat_le 65 b && nat_le b 90) || (nat_le 97 b && nat_le b 122) || (b == 95)

abbrev pub is_digit : ℕ → Bool
is_digit b = nat_le 48 b && nat_le b 57

-- what a name goes on with
abbrev pub is_name_byte : ℕ → Bool
is_name_byte b = is_letter b || is_digit b

-- what may not follow a number: digits, letters, `_` and `.`
abbrev pub is_numeral_byte : ℕ → Bool
is_numeral_byte b = is_name_byte b || (b == 46)

-- the first byte, or 0 where there is none
abbrev pub first_of : List ℕ → ℕ
first_of [] = 0
first_of (b ∷ rest) = b

-- the value of a digit in radix 10 or 16; letters of either case are digits of radix 16
abbrev pub digit_of : Bool → ℕ → Option ℕ
digit_of hexadecimal b =
    if is_digit b then Some (b - 48)
    else (if hexadecimal && (nat_le 97 b && nat_le b 102) then Some (b - 87)
    else (if hexadecimal && (nat_le 65 b && nat_le b 70) then Some (b - 55)
    else None))
