-- What the words on a JSON value promise: one value and one answer for the bytes, and numbers in their ranges.
use Rattle.std.proofs.Common.{Bool, true, false, cond, ◌^◌, ◌≡◌, ℕ, ◌<◌, ◌≤◌, List, length, Option, Some, None, Result, Ok, Err, refl, ap, arith, inl, inr}
use Rattle.std.specs.Prelude.{IfOk, ok_or, codes, bytes_eq, take, drop, nat_le, nat_lt, option_and_then, ◌&&◌}
use Rattle.std.specs.Char.{digit_value}
use Rattle.std.specs.List.{list_all}
use Rattle.std.proofs.lemmas.Bool.{leb-true, ltb-true, and_parts}
use Rattle.std.proofs.lemmas.List.{length-drop}
use Rattle.json_fields.proofs.Addresses.{below}
use Rattle.std.proofs.lemmas.Option.{option_and_then_some, cond_some}
use Rattle.std.specs.Str.Parse.{digits_value}
use Rattle.serde_json.specs.Data.{Data}
use Rattle.serde_json.specs.Find.{as_number, as_str, as_u64}
use Rattle.json_fields.specs.Files.{Answers}
use Rattle.listed.specs.declared.fault.Fault.{Fault}
use Rattle.listed.specs.Steps.Options.{◌>>=◌}
use Rattle.json_fields.specs.Lists.{list_in, list_up_to}
use Rattle.json_fields.specs.Numbers.{within, whole_in, is_digits, digits_below, digits_in, is_address, address_of, address_in}

within-range : (low high m n : ℕ) → within low high m ≡ Some n → (low ≤ n) × (n ≤ high)
within-range low high m n is =
    let tests = cond_some (nat_le low m && nat_le m high) m n is in
    let parts = and_parts (nat_le low m) (nat_le m high) tests.0 in
    (omega (arith, leb-true low m parts.0, tests.1), omega (arith, leb-true m high parts.1, tests.1))

pub whole_in-range : (low high : ℕ) (d : Data) (n : ℕ) → whole_in low high d ≡ Some n → (low ≤ n) × (n ≤ high)
whole_in-range low high d n is =
    option_and_then_some (within low high) (option_and_then as_u64 (as_number d)) n is (λ m _ at. within-range low high m n at)

pub digits_below-lt : (limit : ℕ) (text : List ℕ) (n : ℕ) → digits_below limit text ≡ Some n → n < limit
digits_below-lt limit text n is =
    let tests = cond_some (is_digits text && nat_lt (digits_value 10 text) limit) (digits_value 10 text) n is in
    omega (arith, ltb-true (digits_value 10 text) limit (and_parts _ _ tests.0).1, tests.1)

pub digits_in-lt : (limit : ℕ) (d : Data) (n : ℕ) → digits_in limit d ≡ Some n → n < limit
digits_in-lt limit d n is = option_and_then_some (digits_below limit) (as_str d) n is (λ text _ at. digits_below-lt limit text n at)

-- what came before a step that gave something
pub bind_some : {A B : Type 0} (o : Option A) (next : A → Option B) (y : B) → (o >>= next) ≡ Some y → (x : A) × (o ≡ Some x) × (next x ≡ Some y)
bind_some None next y is = absurd cc
bind_some (Some x) next y is = (x, refl, is)

pub passed : {A : Type 0} (test : Bool) (o : Option A) (y : A) → cond test o None ≡ Some y → (test ≡ true) × (o ≡ Some y)
passed true o y is = (refl, is)
passed false o y is = absurd cc

pub not_refused : {A : Type 0} (test : Bool) (o : Option A) (y : A) → cond test None o ≡ Some y → (test ≡ false) × (o ≡ Some y)
not_refused true o y is = absurd cc
not_refused false o y is = (refl, is)

address_of-lt : (text : List ℕ) (n : ℕ) → address_of text ≡ Some n → n < 2 ^ 32
address_of-lt text n is =
    let tests = cond_some (is_address text) (digits_value 16 (drop 2 text)) n is in
    let prefix = bytes_eq (take 2 text) (codes "0x") && nat_lt 2 (length text) in
    let last = and_parts (prefix && nat_le (length text) 10) (list_all (λ c. nat_lt (digit_value c) 16) (drop 2 text)) tests.0 in
    let few = and_parts prefix (nat_le (length text) 10) last.0 in
    let short : length (drop 2 text) ≤ 8 = omega (arith, length-drop 2 text, leb-true (length text) 10 few.1) in
    omega (arith, below (drop 2 text) last.1 short, tests.1)

-- an address is below 2^32
pub address_in-lt : (d : Data) (n : ℕ) → address_in d ≡ Some n → n < 2 ^ 32
address_in-lt d n is =
    option_and_then_some address_of (as_str d) n is (λ text _ at. address_of-lt text n at)

short : (most : ℕ) (found ds : List Data) → cond (nat_le (length found) most) (Some found) None ≡ Some ds → length ds ≤ most
short most found ds at =
    let test = cond_some (nat_le (length found) most) found ds at in
    omega (arith, leb-true (length found) most test.0, ap length test.1)

pub list_up_to-length : (most : ℕ) (d : Data) (ds : List Data) → list_up_to most d ≡ Some ds → length ds ≤ most
list_up_to-length most d ds is =
    option_and_then_some (λ found. cond (nat_le (length found) most) (Some found) None) (list_in d) ds is (λ found _ at. short most found ds at)

-- what holds of each record of the format holds of the answer
pub IfOk-from_Answers : {X K : Type 0} (P : X → Type 0) (no_value : K) (format : Data → Result X K) (bytes : List ℕ) (r : Result X (Fault K))
    → Answers no_value format bytes r → ((d : Data) → IfOk (format d) P) → IfOk r P
IfOk-from_Answers P no_value format bytes (Ok x) (inl given) each = rw given.2 at (each given.0)
IfOk-from_Answers P no_value format bytes (Ok x) (inr none) each = absurd (cc)
IfOk-from_Answers P no_value format bytes (Err e) answers each = tt

-- what is there, or a fault where nothing is
pub IfOk-ok_or : {A K : Type 0} (P : A → Type 0) (o : Option A) (kind : K) → ((x : A) → o ≡ Some x → P x) → IfOk (ok_or o kind) P
IfOk-ok_or P None kind each = tt
IfOk-ok_or P (Some x) kind each = each x refl

-- the same where a test refuses
pub IfOk-test : {A K : Type 0} (P : A → Type 0) (test : Bool) (x : A) (kind : K) → (test ≡ true → P x) → IfOk (cond test (Ok x) (Err kind)) P
IfOk-test P true x kind passes = passes refl
IfOk-test P false x kind passes = tt
