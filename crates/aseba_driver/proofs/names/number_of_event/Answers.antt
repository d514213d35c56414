use Rattle.std.proofs.Common.{◌∙◌, sym, ap}
use Rattle.aseba_driver.specs.Reading.{place_of_event, place_of_local}
use Rattle.aseba_driver.proofs.NameLaws.{global_number, local_number, no_number}
use Rattle.aseba_driver.proofs.names.number_of_event.Goals as goal

pub returns-in-Some : goal.returns-in-Some
returns-in-Some c =
    global_number c.args.project.now c.args.name.now c.in-Some.place (sym c.in-Some.is ∙ c.global_place.ensures.value ∙ ap (place_of_event c.args.name.now) c.as_slice.ensures)

pub returns-in-Some-local_place : goal.returns-in-Some-local_place
returns-in-Some-local_place c =
    local_number c.args.project.now c.args.name.now c.in-Some-local_place.place (sym c.in-None.is ∙ c.global_place.ensures.value ∙ ap (place_of_event c.args.name.now) c.as_slice.ensures)
    (sym c.in-Some-local_place.is ∙ c.local_place.ensures.value ∙ ap (place_of_local c.args.name.now) c.as_slice-in-None.ensures)

pub returns-in-None-local_place : goal.returns-in-None-local_place
returns-in-None-local_place c =
    no_number c.args.project.now c.args.name.now (sym c.in-None.is ∙ c.global_place.ensures.value ∙ ap (place_of_event c.args.name.now) c.as_slice.ensures)
    (sym c.in-None-local_place.is ∙ c.local_place.ensures.value ∙ ap (place_of_local c.args.name.now) c.as_slice-in-None.ensures)
