-- The text of an address is read as the address.
use Rattle.std.proofs.Common.{◌≡◌, ℕ, ◌+◌, ◌*◌, ◌/◌, ◌%◌, ◌^◌, ◌<◌, ◌==◌, Bool, true, List, [], ◌∷◌, length, Some, refl, ap, ◌∙◌, arith}
use Rattle.std.specs.Prelude.{slice_index, nat_lt}
use Rattle.std.specs.Char.{digit_value}
use Rattle.std.specs.Int.{w32, to_be_bytes}
use Rattle.std.specs.List.{list_all, range_with_len, AllByRecursion}
use Rattle.std.specs.Str.Parse.{digits_value_after}
use Rattle.std.proofs.lemmas.Bool.{eqb-true, lt-ltb}
use Rattle.hex.specs.Hex.{lower_digits, encode_with, encode_lower}
use Rattle.json_fields.specs.Numbers.{address_in}
use Rattle.json_fields.proofs.Addresses.{address_of-digits}
use Rattle.demo_gen.specs.Texts.{address_data}
use Rattle.demo_gen.proofs.Below.{passing}

is_right : ℕ → Bool
is_right d = digit_value (slice_index lower_digits d) == d

all_right : list_all is_right (range_with_len 0 16) ≡ true
unfolding is_right
all_right = refl

digit_back : (d : ℕ) → d < 16 → digit_value (slice_index lower_digits d) ≡ d
unfolding is_right
digit_back d below =
    eqb-true _ _ (passing is_right 16 d all_right below)

-- the number of bytes, the highest first, behind those that give n
unfoldable big : ℕ → List ℕ → ℕ
big n [] = n
big n (b ∷ bs) = big (n * 256 + b) bs

value_back : (n : ℕ) (bs : List ℕ) → AllByRecursion (λ b. b < 256) bs → digits_value_after 16 n (encode_with lower_digits bs) ≡ big n bs
unfolding encode_with big
value_back n [] small = refl
value_back n (b ∷ bs) small =
    let high : b / 16 < 16 = omega (arith, small.0) in
    let low : b % 16 < 16 = omega arith in
    let joined : (n * 16 + b / 16) * 16 + b % 16 ≡ n * 256 + b = omega arith in
    let two : (n * 16 + digit_value (slice_index lower_digits (b / 16))) * 16 + digit_value (slice_index lower_digits (b % 16)) ≡ n * 256 + b =
    rw (digit_back (b / 16) high, digit_back (b % 16) low) joined in
    ap (λ m. digits_value_after 16 m (encode_with lower_digits bs)) two ∙ value_back (n * 256 + b) bs small.1

digits_pass : (bs : List ℕ) → AllByRecursion (λ b. b < 256) bs → list_all (λ c. nat_lt (digit_value c) 16) (encode_with lower_digits bs) ≡ true
unfolding encode_with
digits_pass [] small = refl
digits_pass (b ∷ bs) small =
    let high : b / 16 < 16 = omega (arith, small.0) in
    let low : b % 16 < 16 = omega arith in
    rw (digit_back (b / 16) high, digit_back (b % 16) low, lt-ltb (b / 16) 16 high, lt-ltb (b % 16) 16 low) (digits_pass bs small.1)

bytes_back : (address : ℕ) → address < 2 ^ 32 → big 0 (to_be_bytes w32 address) ≡ address
unfolding big
bytes_back address below = omega arith

bytes_small : (address : ℕ) → AllByRecursion (λ b. b < 256) (to_be_bytes w32 address)
bytes_small address = (omega arith, (omega arith, (omega arith, (omega arith, tt))))

eight_digits : (address : ℕ) → length (encode_lower (to_be_bytes w32 address)) ≡ 8
unfolding encode_with
eight_digits address = refl

pub address_back : (address : ℕ) → address < 2 ^ 32 → address_in (address_data address) ≡ Some address
address_back address below =
    let bytes = to_be_bytes w32 address in
    address_of-digits (encode_lower bytes) (digits_pass bytes (bytes_small address)) (omega (arith, eight_digits address)) (omega (arith, eight_digits address))
    ∙ ap Some (value_back 0 bytes (bytes_small address) ∙ bytes_back address below)
