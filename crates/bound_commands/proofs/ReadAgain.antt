-- Values that are read again from their compact text.
use Rattle.std.proofs.Common.{◌≡◌, ℕ, suc, ◌^◌, ◌<◌, ◌≤◌, Bool, true, false, List, [], ◌∷◌, ◌++◌, map, decimal, Some, refl, ap, sym, ◌∙◌, subst, arith, append-nil}
use Rattle.std.specs.Prelude.{IsUtf8, option_and_then, option_map}
use Rattle.std.specs.List.{AllByRecursion}
use Rattle.std.proofs.lemmas.Fmt.{IsAscii-decimal_wide}
use Rattle.std.proofs.lemmas.Str.{IsUtf8-append, IsUtf8-from_ascii}
use Rattle.json.specs.Json.{Json, value, if_last}
use Rattle.json.specs.Lex.{tokens}
use Rattle.json.specs.Print.{quoted}
use Rattle.json.specs.Tree as tree
use Rattle.json.proofs.Printed.Decimals.{IsNumber-decimal}
use Rattle.json.proofs.Printed.Tokens.{tokens-print}
use Rattle.json.proofs.Printed.Trees.{ArePrintable-json_tokens, value-json_tokens}
use Rattle.json.proofs.Printed.Utf8.{IsUtf8-are_ascii, IsUtf8-quoted}
use Rattle.serde_json.specs.Data.{Data, number, string, array, object, item, Members, no_members, member}
use Rattle.serde_json.specs.Read.{of_json, of_items, of_members, max_depth, read}
use Rattle.serde_json.specs.View.{items_of}
use Rattle.serde_json.specs.Written.{outline, items_outline, members_outline, comma_if, compact_text, items_text, members_text}
use Rattle.serde_json.proofs.Numbers.{number_of-decimal}
use Rattle.serde_json.proofs.Texts.{print-outline}
use Rattle.certificate.specs.Writing.{number_data, flag_data, digits_data, list_data}

-- ---- values

pub record ReadsBack (n : ℕ) (d : Data) : Type 0 where
  pub same : of_json (outline d) ≡ Some d
  pub numbers : tree.HasNumbers (outline d)
  pub shallow : tree.depth (outline d) ≤ n
  pub text : IsUtf8 (compact_text d)

pub deeper : (m n : ℕ) (d : Data) → m ≤ n → ReadsBack m d → ReadsBack n d
deeper m n d below back =
    record { same = back.same; numbers = back.numbers; shallow = (let shallow = back.shallow in omega arith); text = back.text }

pub number_back : (n : ℕ) → n < 2 ^ 64 → ReadsBack 0 (number_data n)
number_back n small = record {
  same = ap (option_map number) (number_of-decimal n small);
  numbers = IsNumber-decimal n small;
  shallow = omega arith;
  text = IsUtf8-from_ascii (decimal n) (IsAscii-decimal_wide n (omega arith));
}

pub string_back : (s : List ℕ) → IsUtf8 s → ReadsBack 0 (string s)
string_back s is = record { same = refl; numbers = tt; shallow = omega arith; text = IsUtf8-quoted s is }

pub digits_back : (n : ℕ) → n < 2 ^ 120 → ReadsBack 0 (digits_data n)
digits_back n small = string_back (decimal n) (IsUtf8-from_ascii (decimal n) (IsAscii-decimal_wide n (omega arith)))

pub flag_back : (flag : Bool) → ReadsBack 0 (flag_data flag)
flag_back true = number_back 1 (omega arith)
flag_back false = number_back 0 (omega arith)

-- ---- lists

record ItemsBack (n : ℕ) (ds : List Data) : Type 0 where
  pub same : of_items (items_outline (items_of ds)) ≡ Some (items_of ds)
  pub numbers : tree.ItemsHaveNumbers (items_outline (items_of ds))
  pub shallow : tree.items_depth (items_outline (items_of ds)) ≤ n
  pub text : (later : Bool) → IsUtf8 (items_text later (items_of ds))

comma_is_text : (later : Bool) → IsUtf8 (comma_if later)
comma_is_text true = IsUtf8-are_ascii (44 ∷ []) refl
comma_is_text false = IsUtf8-are_ascii [] refl

items_back : (n : ℕ) (ds : List Data) → AllByRecursion (ReadsBack n) ds → ItemsBack n ds
items_back n [] all = record { same = refl; numbers = tt; shallow = omega arith; text = λ later. IsUtf8-are_ascii (93 ∷ []) refl }
items_back n (d ∷ ds) all =
    let first = all.0 in
    let rest = items_back n ds all.1 in
    record {
      same = ap (option_and_then (λ x. option_map (item x) (of_items (items_outline (items_of ds))))) first.same
          ∙ ap (option_map (item d)) rest.same;
      numbers = (first.numbers, rest.numbers);
      shallow = (let one = first.shallow in let others = rest.shallow in omega arith);
      text = λ later. IsUtf8-append (comma_if later) (compact_text d ++ items_text true (items_of ds)) (comma_is_text later)
          (IsUtf8-append (compact_text d) (items_text true (items_of ds)) first.text (rest.text true));
    }

pub list_back : (n : ℕ) (ds : List Data) → AllByRecursion (ReadsBack n) ds → ReadsBack (suc n) (list_data ds)
list_back n ds all =
    let items = items_back n ds all in
    record {
      same = ap (option_map array) items.same;
      numbers = items.numbers;
      shallow = (let shallow = items.shallow in omega arith);
      text = IsUtf8-append (91 ∷ []) (items_text false (items_of ds)) (IsUtf8-are_ascii (91 ∷ []) refl) (items.text false);
    }

pub each_back : {A : Type 0} (n : ℕ) (data_of : A → Data) (P : A → Type 0) → ((x : A) → P x → ReadsBack n (data_of x)) → (xs : List A)
    → AllByRecursion P xs → AllByRecursion (ReadsBack n) (map data_of xs)
each_back n data_of P back [] all = tt
each_back n data_of P back (x ∷ xs) all = (back x all.0, each_back n data_of P back xs all.1)

-- ---- objects

-- members whose values are read again
pub record MembersBack (n : ℕ) (ms : Members) : Type 0 where
  pub numbers : tree.MembersHaveNumbers (members_outline ms)
  pub shallow : tree.members_depth (members_outline ms) ≤ n
  pub text : (later : Bool) → IsUtf8 (members_text later ms)

pub no_more_back : (n : ℕ) → MembersBack n no_members
no_more_back n = record { numbers = tt; shallow = omega arith; text = λ later. IsUtf8-are_ascii (125 ∷ []) refl }

pub member_back : (n : ℕ) (key : List ℕ) (d : Data) (ms : Members) → IsUtf8 key → ReadsBack n d → MembersBack n ms → MembersBack n (member key d ms)
member_back n key d ms is_text back rest = record {
  numbers = (back.numbers, rest.numbers);
  shallow = (let one = back.shallow in let others = rest.shallow in omega arith);
  text = λ later. IsUtf8-append (comma_if later) (quoted key ++ 58 ∷ (compact_text d ++ members_text true ms)) (comma_is_text later)
      (IsUtf8-append (quoted key) (58 ∷ (compact_text d ++ members_text true ms)) (IsUtf8-quoted key is_text)
      (IsUtf8-append (58 ∷ []) (compact_text d ++ members_text true ms) (IsUtf8-are_ascii (58 ∷ []) refl)
      (IsUtf8-append (compact_text d) (members_text true ms) back.text (rest.text true))));
}

-- each key stands once, in order
pub object_back : (n : ℕ) (ms : Members) → of_members (members_outline ms) no_members ≡ Some ms → MembersBack n ms → ReadsBack (suc n) (object ms)
object_back n ms same back = record {
  same = ap (option_map object) same;
  numbers = back.numbers;
  shallow = (let shallow = back.shallow in omega arith);
  text = IsUtf8-append (123 ∷ []) (members_text false ms) (IsUtf8-are_ascii (123 ∷ []) refl) (back.text false);
}

-- ---- the text

pub read_text : (n : ℕ) (d : Data) → n ≤ 127 → ReadsBack n d → read (compact_text d) ≡ Some d
read_text n d few back =
    let shallow = back.shallow in
    let j : Json = outline d in
    let are : tokens (compact_text d) ≡ tree.json_tokens j ++ [] =
    subst (λ (text : List ℕ). tokens text ≡ tree.json_tokens j ++ []) (print-outline d)
    (tokens-print (tree.json_tokens j) (ArePrintable-json_tokens j back.numbers) ∙ sym (append-nil (tree.json_tokens j))) in
    ap (λ r. option_and_then of_json (option_and_then (λ p. if_last p.0 p.1) r)) (ap (value max_depth) are ∙ value-json_tokens j max_depth [] (omega arith))
    ∙ back.same
