use Rattle.std.proofs.Common.{rules, ℕ, ◌<◌, ◌^◌, Fits, w64, arith}
use Rattle.split_search.specs.Found.{search_of}
use Rattle.split_commands.proofs.Searched.{is_sound, found_said}
use Rattle.split_commands.proofs.found.answer.Goals as goal

pub returns : goal.returns
returns c =
    let analysed = c.args.analysed.now in
    let states = c.args.states.now in
    let bound = c.args.wanted.bound in
    let cuts = c.args.wanted.cuts in
    let found = c.find_split-found.result in
    let in_range : Fits w64 bound = search rules in
    let low : bound < 2 ^ 120 = omega (arith, in_range.fits) in
    found_said c.args.name.now analysed states bound cuts (search_of analysed.plant states analysed.task bound cuts) found c.found_text.result
    c.find_split-found.ensures.outcome
    (is_sound analysed states bound found low c.requires.lawful c.find_split-found.ensures.parts c.find_split-found.ensures.good
    c.find_split-found.ensures.lawful)
    c.find_split-found.ensures.ray c.found_text.ensures
