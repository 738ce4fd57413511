-- The verdict on a certificate whose states are closed.
use Rattle.whole_rows.specs.Duals.{first_failing_of}
use Rattle.whole_rows.specs.Rows.{RowsData}
use Rattle.whole_rows.specs.declared.DualVerdict.{DualVerdict}
use Rattle.whole_rows.specs.declared.DualVerdict.TheVariants as duals
use Rattle.certificate.specs.declared.cert.Cert.{Cert}
use Rattle.certificate.specs.declared.verdict.Verdict.{Verdict}
use Rattle.certificate.specs.declared.verdict.Verdict.TheVariants.{Yes, No}
use Rattle.certificate.specs.declared.verdict.Why.TheVariants.{Count, Column, Bound}

abbrev pub verdict_of : DualVerdict → Verdict
verdict_of duals.Yes = Yes
verdict_of (duals.Count given wanted) = No (Count given wanted)
verdict_of (duals.Column column) = No (Column column)
verdict_of duals.Bound = No Bound

-- by the multipliers
abbrev pub verdict_by : RowsData → Cert → Verdict
verdict_by rows cert = verdict_of (first_failing_of rows cert.multipliers cert.denominator cert.bound)
