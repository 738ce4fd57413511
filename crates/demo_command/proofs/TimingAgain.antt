-- The text of a generated timing is read again as its value.
use Rattle.std.proofs.Common.{◌≡◌, ℕ, ◌^◌, ◌<◌, List, [], ◌∷◌, ◌++◌, map, true, Some, refl, arith}
use Rattle.std.specs.Prelude.{IsUtf8, codes, nat_lt}
use Rattle.std.specs.Str.{IsAscii}
use Rattle.std.specs.Int.{w32, to_be_bytes}
use Rattle.std.specs.List.{AllByRecursion}
use Rattle.std.proofs.lemmas.Bool.{and_parts, ltb-true}
use Rattle.std.proofs.lemmas.Str.Ascii.{IsAscii-nil, IsAscii-cons}
use Rattle.std.proofs.lemmas.Str.{IsUtf8-append, IsUtf8-from_ascii}
use Rattle.json.proofs.Printed.Utf8.{are_ascii, IsUtf8-are_ascii}
use Rattle.hex.specs.Hex.{lower_digits, encode_lower}
use Rattle.hex.proofs.HexLemmas.{IsAscii-encode_with}
use Rattle.serde_json.specs.Data.{Data, object, Members, no_members, member}
use Rattle.serde_json.specs.Read.{of_members}
use Rattle.serde_json.specs.Written.{members_outline}
use Rattle.timing_file.specs.declared.timing.Loop.{Loop}
use Rattle.certificate.specs.Writing.{number_data, list_data}
use Rattle.bound_commands.proofs.ReadAgain.{ReadsBack, deeper, number_back, string_back, list_back, each_back, member_back, no_more_back, object_back}
use Rattle.demo_gen.specs.declared.task.DemoTask.{DemoTask}
use Rattle.demo_gen.specs.Demo.{loop_of, counter_name}
use Rattle.demo_gen.specs.Texts.{address_data, loop_data, single, timing_data}

low_bytes : (bs : List ℕ) → are_ascii bs ≡ true → IsAscii bs
low_bytes [] are = IsAscii-nil
low_bytes (b ∷ bs) are =
    let parts = and_parts (nat_lt b 128) (are_ascii bs) are in
    IsAscii-cons b bs (ltb-true b 128 parts.0) (low_bytes bs parts.1)

address_reads : (address : ℕ) → ReadsBack 0 (address_data address)
address_reads address =
    string_back (codes "0x" ++ encode_lower (to_be_bytes w32 address))
    (IsUtf8-append (codes "0x") (encode_lower (to_be_bytes w32 address)) (IsUtf8-are_ascii (codes "0x") refl)
    (IsUtf8-from_ascii (encode_lower (to_be_bytes w32 address)) (IsAscii-encode_with lower_digits (to_be_bytes w32 address) (low_bytes lower_digits refl))))

-- ---- a loop

loop_members : ℕ → ℕ → ℕ → Members
loop_members bound from to =
    member (codes "bound") (number_data bound) (member (codes "from") (address_data from) (member (codes "to") (address_data to) no_members))

loop_same : (bound from to : ℕ) → ReadsBack 0 (number_data bound)
    → of_members (members_outline (loop_members bound from to)) no_members ≡ Some (loop_members bound from to)
unfolding loop_members
loop_same bound from to number = rw (number.same) refl

loop_reads : (l : Loop) → l.bound < 2 ^ 64 → ReadsBack 1 (loop_data l)
unfolding loop_members
loop_reads l small =
    let number = number_back l.bound small in
    object_back 0 (loop_members l.bound l.from l.to) (loop_same l.bound l.from l.to number)
    (member_back 0 (codes "bound") (number_data l.bound) _ (IsUtf8-are_ascii (codes "bound") refl) number
    (member_back 0 (codes "from") (address_data l.from) _ (IsUtf8-are_ascii (codes "from") refl) (address_reads l.from)
    (member_back 0 (codes "to") (address_data l.to) no_members (IsUtf8-are_ascii (codes "to") refl) (address_reads l.to) (no_more_back 0))))

-- ---- an object with one number

single_reads : (key : List ℕ) (n : ℕ) → IsUtf8 key → n < 2 ^ 64 → ReadsBack 1 (single key n)
single_reads key n is_text small =
    let number = number_back n small in
    object_back 0 (member key (number_data n) no_members) (rw number.same refl) (member_back 0 key (number_data n) no_members is_text number (no_more_back 0))

-- ---- the timing

timing_members : Data → Data → Data → Data → Data → Members
timing_members ten classes loops services ticks =
    member (codes "alarm") ten
    (member (codes "classes") classes
    (member (codes "interrupt") ten
    (member (codes "loops") loops
    (member (codes "services") services
    (member (codes "ticks") ticks
    (member (codes "version") (number_data 1) no_members))))))

timing_same : (n : ℕ) (ten classes loops services ticks : Data) → ReadsBack n ten → ReadsBack n classes → ReadsBack n loops → ReadsBack n services
    → ReadsBack n ticks → ReadsBack 0 (number_data 1)
    → of_members (members_outline (timing_members ten classes loops services ticks)) no_members ≡ Some (timing_members ten classes loops services ticks)
unfolding timing_members
timing_same n ten classes loops services ticks is_ten are_classes are_loops are_services are_ticks one =
    rw (is_ten.same, are_classes.same, are_loops.same, are_services.same, are_ticks.same, one.same) refl

pub timing_reads : (tasks : List DemoTask) → AllByRecursion (λ (t : DemoTask). t.bound < 2 ^ 64) tasks → ReadsBack 3 (timing_data tasks)
unfolding timing_data timing_members
timing_reads tasks small =
    let ten : Data = number_data 10 in
    let classes : Data = single (codes "default") 1 in
    let loops : Data = list_data (map (λ task. loop_data (loop_of task)) tasks) in
    let services : Data = single (codes "default") 10 in
    let ticks : Data = single counter_name 1 in
    let is_ten : ReadsBack 2 ten = deeper 0 2 ten (omega arith) (number_back 10 (omega arith)) in
    let are_classes : ReadsBack 2 classes = deeper 1 2 classes (omega arith) (single_reads (codes "default") 1 (IsUtf8-are_ascii (codes "default") refl) (omega arith)) in
    let are_services : ReadsBack 2 services =
    deeper 1 2 services (omega arith) (single_reads (codes "default") 10 (IsUtf8-are_ascii (codes "default") refl) (omega arith)) in
    let are_ticks : ReadsBack 2 ticks = deeper 1 2 ticks (omega arith) (single_reads counter_name 1 (IsUtf8-are_ascii counter_name refl) (omega arith)) in
    let are_loops : ReadsBack 2 loops =
    list_back 1 (map (λ task. loop_data (loop_of task)) tasks)
    (each_back 1 (λ task. loop_data (loop_of task)) (λ (t : DemoTask). t.bound < 2 ^ 64) (λ task is. loop_reads (loop_of task) is) tasks small) in
    let is_one : ReadsBack 2 (number_data 1) = deeper 0 2 (number_data 1) (omega arith) (number_back 1 (omega arith)) in
    object_back 2 (timing_members ten classes loops services ticks)
    (timing_same 2 ten classes loops services ticks is_ten are_classes are_loops are_services are_ticks (number_back 1 (omega arith)))
    (member_back 2 (codes "alarm") ten _ (IsUtf8-are_ascii (codes "alarm") refl) is_ten
    (member_back 2 (codes "classes") classes _ (IsUtf8-are_ascii (codes "classes") refl) are_classes
    (member_back 2 (codes "interrupt") ten _ (IsUtf8-are_ascii (codes "interrupt") refl) is_ten
    (member_back 2 (codes "loops") loops _ (IsUtf8-are_ascii (codes "loops") refl) are_loops
    (member_back 2 (codes "services") services _ (IsUtf8-are_ascii (codes "services") refl) are_services
    (member_back 2 (codes "ticks") ticks _ (IsUtf8-are_ascii (codes "ticks") refl) are_ticks
    (member_back 2 (codes "version") (number_data 1) no_members (IsUtf8-are_ascii (codes "version") refl) is_one (no_more_back 2))))))))
