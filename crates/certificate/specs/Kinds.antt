-- The words of the kinds of fault.
use Rattle.std.specs.Prelude.{ℕ, List, codes}
use Rattle.certificate.specs.declared.fault.CertKind.{CertKind}
use Rattle.certificate.specs.declared.fault.CertKind.TheVariants as cert_kinds
use Rattle.certificate.specs.declared.fault.StatesKind.{StatesKind}
use Rattle.certificate.specs.declared.fault.StatesKind.TheVariants as states_kinds

abbrev pub cert_word : CertKind → List ℕ
cert_word cert_kinds.Json = codes "Json"
cert_word cert_kinds.Shape = codes "Shape"
cert_word cert_kinds.Range = codes "Range"
cert_word cert_kinds.State = codes "State"
cert_word cert_kinds.Task = codes "Task"

abbrev pub states_word : StatesKind → List ℕ
states_word states_kinds.Json = codes "Json"
states_word states_kinds.Shape = codes "Shape"
states_word states_kinds.State = codes "State"
