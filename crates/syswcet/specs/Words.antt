-- The shapes of the command words.
use Rattle.std.specs.Prelude.{◌≡◌, ℕ, ◌+◌, ◌≤◌, Bool, ◌&&◌, ◌==◌, List, [], ◌∷◌, length, get_or, codes, bytes_eq, Option, Some, None, if◌then◌else◌, nat_lt, nat_le, option_and_then, refl}
use Rattle.std.specs.Char.{is_ascii_digit}
use Rattle.std.specs.List.{list_all}
use Rattle.std.specs.Option.{option_map}
use Rattle.std.specs.Str.Parse.{digits_value}
use Rattle.bound_commands.specs.Solving.{usual_pivots}
use Rattle.split_commands.specs.Find.{usual_cuts}
use Rattle.syswcet.specs.declared.words.Command.{Command}
use Rattle.syswcet.specs.declared.words.Command.TheVariants.{Check, Bound, Certify, All, ShowOil, ShowCode, Replay, Loops, SplitCheck, SplitFind, TraceRecord, TraceJudge, Demo}
use Rattle.inputs.specs.declared.subjects.Subject.{Subject}
use Rattle.inputs.specs.declared.subjects.Subject.TheVariants.{Lone, Named}

-- the word at a place, counted from 0
abbrev pub word : List (List ℕ) → ℕ → List ℕ
word words i = get_or words i []

-- there is a word at the place, and it is that text
abbrev pub has_word : List (List ℕ) → ℕ → List ℕ → Bool
has_word words i text = nat_lt i (length words) && bytes_eq (word words i) text

-- so many words, the first of which is this
abbrev pub is_single : List (List ℕ) → List ℕ → ℕ → Bool
is_single words first count = (length words == count) && has_word words 0 first

-- the first two words are these
abbrev pub begins : List (List ℕ) → List ℕ → List ℕ → Bool
begins words first second = has_word words 0 first && has_word words 1 second

-- so many words, the first two of which are these
abbrev pub is_shape : List (List ℕ) → List ℕ → List ℕ → ℕ → Bool
is_shape words first second count = is_single words first count && has_word words 1 second

-- a number: 1 to 10 decimal digits
abbrev pub is_number : List ℕ → Bool
is_number text = nat_lt 0 (length text) && nat_le (length text) 10 && list_all is_ascii_digit text

abbrev pub number_of : List ℕ → Option ℕ
number_of text = if is_number text then Some (digits_value 10 text) else None

-- the number that a text writes, where it lies from `low` to `high`
abbrev pub within : ℕ → ℕ → ℕ → Option ℕ
within low high n = if nat_le low n && nat_le n high then Some n else None

abbrev pub number_within : ℕ → ℕ → List ℕ → Option ℕ
number_within low high text = option_and_then (within low high) (number_of text)

-- a limit on pivots
abbrev pub pivots_of : List ℕ → Option ℕ
pivots_of text = number_within 1 10000000 text

-- ---- what is analysed: behind the command's name stands `lone IMAGE`, or else `OIL ELF TIMING TASK`

abbrev pub is_lone : List (List ℕ) → Bool
is_lone words = has_word words 1 (codes "lone")

abbrev pub subject_of : List (List ℕ) → Subject
subject_of words = if is_lone words then Lone (word words 2) else Named (word words 1) (word words 2) (word words 3) (word words 4)

-- the place of the word behind it
abbrev pub place_behind : List (List ℕ) → ℕ
place_behind words = if is_lone words then 3 else 5

abbrev pub file_of : List (List ℕ) → List ℕ
file_of words = word words (place_behind words)

-- that word is the last one
abbrev pub is_last : List (List ℕ) → Bool
is_last words = length words == place_behind words + 1

-- `--pivots N` stands behind it, and nothing else
abbrev pub has_option : List (List ℕ) → Bool
has_option words = (length words == place_behind words + 3) && has_word words (place_behind words + 1) (codes "--pivots")

-- the limit on pivots that the words behind the file set
abbrev pub limit_of : List (List ℕ) → Option ℕ
limit_of words =
    if is_last words then Some usual_pivots
    else (if has_option words then pivots_of (word words (place_behind words + 2)) else None)

-- ---- the limit on cuts of a search: behind its bound stands `--cuts C`, or nothing

abbrev pub cuts_of : List ℕ → Option ℕ
cuts_of text = number_within 1 100 text

abbrev pub cuts_limit : List (List ℕ) → Option ℕ
cuts_limit words =
    if length words == 8 then Some usual_cuts
    else (if (length words == 10) && has_word words 8 (codes "--cuts") then cuts_of (word words 9) else None)

-- ---- the commands, with the words that name their files

abbrev pub check : List (List ℕ) → Command
check words = Check (subject_of words) (file_of words)

abbrev pub bound : List (List ℕ) → ℕ → Command
bound words pivots = Bound (subject_of words) (file_of words) pivots

abbrev pub certify : List (List ℕ) → ℕ → Command
certify words pivots = Certify (subject_of words) (file_of words) pivots

abbrev pub all : List (List ℕ) → Command
all words = All (word words 1) (word words 2) (word words 3) (word words 4)

abbrev pub show_oil : List (List ℕ) → Command
show_oil words = ShowOil (word words 2)

abbrev pub show_code : List (List ℕ) → Command
show_code words = ShowCode (word words 2) (word words 3) (word words 4)

abbrev pub replay : List (List ℕ) → Command
replay words = Replay (word words 1) (word words 2) (word words 3) (word words 4)

abbrev pub loops : List (List ℕ) → Command
loops words = Loops (word words 1) (word words 2) (word words 3) (word words 4) (word words 5)

abbrev pub split_check : List (List ℕ) → Command
split_check words = SplitCheck (word words 2) (word words 3) (word words 4) (word words 5) (word words 6)

abbrev pub split_find : List (List ℕ) → ℕ → ℕ → Command
split_find words cuts bound = SplitFind (word words 2) (word words 3) (word words 4) (word words 5) (word words 6) bound cuts

-- the search, where its bound is a number and its limit on cuts is one
abbrev pub split_find_of : List (List ℕ) → Option Command
split_find_of words = option_and_then (λ cuts. option_map (split_find words cuts) (number_of (word words 7))) (cuts_limit words)

abbrev pub trace_record : List (List ℕ) → Command
trace_record words = TraceRecord (word words 2) (word words 3) (word words 4) (word words 5)

abbrev pub trace_judge : List (List ℕ) → Command
trace_judge words = TraceJudge (word words 2) (word words 3) (word words 4) (word words 5) (word words 6) (word words 7)

-- a seed and how many tasks
abbrev pub demo_of : List (List ℕ) → Option Command
demo_of words = option_and_then (λ seed. option_map (Demo seed) (number_within 1 8 (word words 2))) (number_within 0 4294967295 (word words 1))

-- ---- all of them

-- What the words ask for:
--
--   check OIL ELF TIMING TASK CERT                       check lone IMAGE CERT
--   bound OIL ELF TIMING TASK STATES [--pivots N]        bound lone IMAGE STATES [--pivots N]
--   certify OIL ELF TIMING TASK STATES [--pivots N]      certify lone IMAGE STATES [--pivots N]
--   all OIL ELF TIMING STATES
--   show oil OIL
--   show code OIL ELF TIMING
--   replay OIL ELF TIMING SCHEDULE
--   loops OIL ELF TIMING TASK STATES
--   split check OIL ELF TIMING TASK CERT                 split find OIL ELF TIMING TASK STATES N [--cuts C]
--   trace record OIL ELF TIMING SCHEDULE                 trace judge OIL ELF TIMING TASK CERT TRACE
--   demo SEED TASKS
abbrev pub command_of : List (List ℕ) → Option Command
command_of words =
    if has_word words 0 (codes "check") then (if is_last words then Some (check words) else None)
    else (if has_word words 0 (codes "bound") then option_map (bound words) (limit_of words)
    else (if has_word words 0 (codes "certify") then option_map (certify words) (limit_of words)
    else (if is_single words (codes "all") 5 then Some (all words)
    else (if is_shape words (codes "show") (codes "oil") 3 then Some (show_oil words)
    else (if is_shape words (codes "show") (codes "code") 5 then Some (show_code words)
    else (if is_single words (codes "replay") 5 then Some (replay words)
    else (if is_single words (codes "loops") 6 then Some (loops words)
    else (if is_shape words (codes "split") (codes "check") 7 then Some (split_check words)
    else (if begins words (codes "split") (codes "find") then split_find_of words
    else (if is_shape words (codes "trace") (codes "record") 6 then Some (trace_record words)
    else (if is_shape words (codes "trace") (codes "judge") 8 then Some (trace_judge words)
    else (if is_single words (codes "demo") 3 then demo_of words
    else None))))))))))))

-- numbers that a command asks to be in a range
abbrev pub IsInRange : Command → Type 0
IsInRange (SplitFind oil elf timing task states bound cuts) = cuts ≤ 100
IsInRange (Demo seed count) = (1 ≤ count) × (count ≤ 8)
IsInRange command = Unit {0}

-- ---- worked cases

check_lone_case : command_of (codes "check" ∷ codes "lone" ∷ codes "a" ∷ codes "c" ∷ []) ≡ Some (Check (Lone (codes "a")) (codes "c"))
check_lone_case = refl

check_case : command_of (codes "check" ∷ codes "o" ∷ codes "e" ∷ codes "t" ∷ codes "T" ∷ codes "c" ∷ []) ≡ Some
    (Check (Named (codes "o") (codes "e") (codes "t") (codes "T")) (codes "c"))
check_case = refl

no_shape_case : command_of (codes "check" ∷ codes "lone" ∷ codes "a" ∷ []) ≡ None
no_shape_case = refl

-- where the second word is `lone`, no other shape is tried
lone_alone_case : command_of (codes "check" ∷ codes "lone" ∷ codes "e" ∷ codes "t" ∷ codes "T" ∷ codes "c" ∷ []) ≡ None
lone_alone_case = refl

bound_lone_case : command_of (codes "bound" ∷ codes "lone" ∷ codes "a" ∷ codes "k" ∷ []) ≡ Some (Bound (Lone (codes "a")) (codes "k") 100000)
bound_lone_case = refl

pivots_case : command_of (codes "bound" ∷ codes "lone" ∷ codes "a" ∷ codes "k" ∷ codes "--pivots" ∷ codes "0012" ∷ []) ≡ Some
    (Bound (Lone (codes "a")) (codes "k") 12)
pivots_case = refl

no_pivots_case : command_of (codes "bound" ∷ codes "lone" ∷ codes "a" ∷ codes "k" ∷ codes "--pivots" ∷ codes "0" ∷ []) ≡ None
no_pivots_case = refl

certify_case : command_of
    (codes "certify" ∷ codes "o" ∷ codes "e" ∷ codes "t" ∷ codes "T" ∷ codes "k" ∷ codes "--pivots" ∷ codes "7" ∷ []) ≡ Some
    (Certify (Named (codes "o") (codes "e") (codes "t") (codes "T")) (codes "k") 7)
certify_case = refl

show_oil_case : command_of (codes "show" ∷ codes "oil" ∷ codes "lone" ∷ []) ≡ Some (ShowOil (codes "lone"))
show_oil_case = refl

replay_case : command_of (codes "replay" ∷ codes "o" ∷ codes "e" ∷ codes "t" ∷ codes "s" ∷ []) ≡ Some
    (Replay (codes "o") (codes "e") (codes "t") (codes "s"))
replay_case = refl

trace_judge_case : command_of
    (codes "trace" ∷ codes "judge" ∷ codes "o" ∷ codes "e" ∷ codes "t" ∷ codes "T" ∷ codes "c" ∷ codes "r" ∷ []) ≡ Some
    (TraceJudge (codes "o") (codes "e") (codes "t") (codes "T") (codes "c") (codes "r"))
trace_judge_case = refl

split_find_case : command_of
    (codes "split" ∷ codes "find" ∷ codes "o" ∷ codes "e" ∷ codes "t" ∷ codes "T" ∷ codes "k" ∷ codes "127" ∷ []) ≡ Some
    (SplitFind (codes "o") (codes "e") (codes "t") (codes "T") (codes "k") 127 64)
split_find_case = refl

cuts_case : command_of
    (codes "split" ∷ codes "find" ∷ codes "o" ∷ codes "e" ∷ codes "t" ∷ codes "T" ∷ codes "k" ∷ codes "127" ∷ codes "--cuts" ∷ codes "3" ∷ []) ≡ Some
    (SplitFind (codes "o") (codes "e") (codes "t") (codes "T") (codes "k") 127 3)
cuts_case = refl

demo_case : command_of (codes "demo" ∷ codes "1" ∷ codes "3" ∷ []) ≡ Some (Demo 1 3)
demo_case = refl

many_tasks_case : command_of (codes "demo" ∷ codes "1" ∷ codes "9" ∷ []) ≡ None
many_tasks_case = refl
