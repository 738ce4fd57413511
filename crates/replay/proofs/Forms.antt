-- The arrivals of a schedule, which the code tests one by one.
use Rattle.std.proofs.Common.{◌≡◌, List, map}
use Rattle.std.specs.List.{list_all}
use Rattle.std.proofs.lemmas.List.Folds.{list_all-map}
use Rattle.serde_json.specs.View.{view}
use Rattle.serde_json.specs.declared.value.Value.{Value}
use Rattle.replay.specs.Form.{is_arrival}

pub are_arrivals_view : (vs : List Value) → list_all is_arrival (map view vs) ≡ list_all (λ v. is_arrival (view v)) vs
are_arrivals_view vs = list_all-map is_arrival view vs
