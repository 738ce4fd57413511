-- The words of the kinds of fault.
use Rattle.std.specs.Prelude.{ℕ, List, codes}
use Rattle.oil_model.specs.declared.fault.ModelKind.{ModelKind}
use Rattle.oil_model.specs.declared.fault.ModelKind.TheVariants.{Twice, Missing, UnknownName, BadValue, Unsupported, SamePriority, Limit}

abbrev pub model_word : ModelKind → List ℕ
model_word Twice = codes "Twice"
model_word Missing = codes "Missing"
model_word UnknownName = codes "UnknownName"
model_word BadValue = codes "BadValue"
model_word Unsupported = codes "Unsupported"
model_word SamePriority = codes "SamePriority"
model_word Limit = codes "Limit"
