-- The refusals of images, timings and code, and what is said of a code graph.
use Rattle.std.specs.Prelude.{ℕ, List, ◌++◌, codes, Option, Some, None, unwrap_or}
use Rattle.std.specs.Fmt.{decimal}
use Rattle.std.specs.Int.{w32, to_be_bytes}
use Rattle.hex.specs.Hex.{encode_lower}
use Rattle.elf_image.specs.declared.fault.ElfKind.{ElfKind}
use Rattle.elf_image.specs.Kinds.{elf_word}
use Rattle.timing_file.specs.declared.fault.TimingKind.{TimingKind}
use Rattle.timing_file.specs.Kinds.{timing_word}
use Rattle.flow_graph.specs.declared.fault.CodeKind.{CodeKind}
use Rattle.flow_graph.specs.Kinds.{code_word}
use Rattle.command_steps.specs.declared.status.Reason.TheVariants.{Input}
use Rattle.command_steps.specs.declared.halt.Refusal.{Refusal}
use Rattle.command_steps.specs.Refusals.{refusal, newline}

-- the bytes are no image
abbrev pub elf_refusal : ElfKind → Refusal
elf_refusal kind = refusal Input (codes "elf " ++ (elf_word kind ++ newline))

-- the bytes are no timing
abbrev pub timing_refusal : TimingKind → Refusal
timing_refusal kind = refusal Input (codes "timing " ++ (timing_word kind ++ newline))

-- eight hexadecimal digits with small letters, or `-` where there is no address
abbrev pub address_text : Option ℕ → List ℕ
address_text None = codes "-"
address_text (Some address) = encode_lower (to_be_bytes w32 address)

-- the code has a fault: the name of its context and its address, each `-` where there is none
abbrev pub code_refusal : Option (List ℕ) → Option ℕ → CodeKind → Refusal
code_refusal name address kind =
    refusal Input (codes "code " ++ (unwrap_or name (codes "-") ++ (codes " " ++ (address_text address ++ (codes " " ++ (code_word kind ++ newline))))))

-- the code has too many blocks, so many of them
abbrev pub blocks_refusal : ℕ → Refusal
blocks_refusal count = refusal Input (codes "blocks " ++ (decimal count ++ newline))

-- how many nodes, blocks and loops a context has: `NAME nodes A blocks B loops C`
abbrev pub context_line : List ℕ → ℕ → ℕ → ℕ → List ℕ
context_line name nodes blocks loops =
    name ++ (codes " nodes " ++ (decimal nodes ++ (codes " blocks " ++ (decimal blocks ++ (codes " loops " ++ (decimal loops ++ newline))))))
