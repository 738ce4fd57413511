-- The refusals of schedules and of runs that are played, and what is said of a response.
use Rattle.std.specs.Prelude.{ℕ, List, ◌++◌, codes, Bool, true, false}
use Rattle.std.specs.Fmt.{decimal}
use Rattle.std.specs.Int.{w32, to_be_bytes}
use Rattle.hex.specs.Hex.{encode_lower}
use Rattle.replay.specs.declared.fault.ScheduleKind.{ScheduleKind}
use Rattle.replay.specs.declared.response.PlayKind.{PlayKind}
use Rattle.replay.specs.Kinds.{schedule_word, play_word}
use Rattle.command_steps.specs.declared.status.Reason.TheVariants.{Input, Misuse, NotDeclared}
use Rattle.command_steps.specs.declared.halt.Refusal.{Refusal}
use Rattle.command_steps.specs.Refusals.{refusal, newline}

-- the bytes are no schedule
abbrev pub schedule_refusal : ScheduleKind → Refusal
schedule_refusal kind = refusal Input (codes "schedule " ++ (schedule_word kind ++ newline))

-- a context misused a service: its name, the address of the ECALL in eight hexadecimal digits, and the code that it got
abbrev pub misuse_refusal : List ℕ → ℕ → ℕ → Refusal
misuse_refusal name address code =
    refusal Misuse (codes "misuse " ++ (name ++ (codes " " ++ (encode_lower (to_be_bytes w32 address) ++ (codes " " ++ (decimal code ++ newline))))))

-- what is declared was broken: the kind, the name of the source or of the context, and the moment
abbrev pub declaration_refusal : PlayKind → List ℕ → ℕ → Refusal
declaration_refusal kind name moment =
    refusal NotDeclared (codes "notdeclared " ++ (play_word kind ++ (codes " " ++ (name ++ (codes " " ++ (decimal moment ++ newline))))))

abbrev pub ended_word : Bool → List ℕ
ended_word true = codes "ended"
ended_word false = codes "open"

-- how long an activation lasted: `TASK START CYCLES ended`, or `open` where it hasn't ended
abbrev pub response_line : List ℕ → ℕ → ℕ → Bool → List ℕ
response_line name start cycles ended =
    name ++ (codes " " ++ (decimal start ++ (codes " " ++ (decimal cycles ++ (codes " " ++ (ended_word ended ++ newline))))))
