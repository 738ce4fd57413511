-- The certificate that a JSON value is, or the first kind of fault that it has, in the order in which the
-- kinds are listed, each judged over the whole value.
use Rattle.std.specs.Prelude.{ℕ, ◌^◌, List, ◌==◌, bytes_eq, if◌then◌else◌, ok_or, Result, Ok, Err}
use Rattle.listed.specs.Faults.{told_as}
use Rattle.listed.specs.Lists.{all_of}
use Rattle.listed.specs.Steps.{◌>>=◌}
use Rattle.serde_json.specs.Data.{Data}
use Rattle.json_fields.specs.Numbers.{digits_below, digits_in}
use Rattle.abstract_sched.specs.declared.rules.StateRules.{StateRules}
use Rattle.certificate.specs.declared.cert.Cert.{Cert}
use Rattle.certificate.specs.declared.fault.CertKind.{CertKind}
use Rattle.certificate.specs.declared.fault.CertKind.TheVariants.{Shape, Range, State, Task}
use Rattle.certificate.specs.declared.read.CertNumbers.{CertNumbers}
use Rattle.certificate.specs.Form.{CertParts, cert_parts}
use Rattle.certificate.specs.States.{states_of}

abbrev pub multiplier_in : Data → Result ℕ CertKind
multiplier_in d = ok_or (digits_in (2 ^ 80) d) Range

-- the bound is below 2^120, and the others are below 2^80
unfoldable pub cert_numbers : CertParts → Result CertNumbers CertKind
cert_numbers parts = do
  bound ← ok_or (digits_below (2 ^ 120) parts.bound) Range
  denominator ← ok_or (digits_below (2 ^ 80) parts.denominator) Range
  multipliers ← all_of multiplier_in parts.multipliers
  if denominator == 0 then Err Range else Ok (record { bound = bound; denominator = denominator; multipliers = multipliers })

-- for the task of this id and name
abbrev pub cert_in : StateRules → ℕ → List ℕ → Data → Result Cert CertKind
cert_in rules task name d = do
  parts ← ok_or (cert_parts d) Shape
  numbers ← cert_numbers parts
  states ← told_as State (states_of rules parts.states)
  if bytes_eq parts.task name then Ok (record { task = task; bound = numbers.bound; denominator = numbers.denominator; states = states; multipliers = numbers.multipliers }) else Err Task
