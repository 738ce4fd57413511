-- JSON types.
use Rattle.std.specs.Prelude.{Bool, is_some}
use Rattle.serde_json.specs.Data.{Data}
use Rattle.serde_json.specs.Find.{as_number, as_str, as_object}

abbrev pub is_number : Data → Bool
is_number d = is_some (as_number d)

abbrev pub is_text : Data → Bool
is_text d = is_some (as_str d)

abbrev pub is_object : Data → Bool
is_object d = is_some (as_object d)
