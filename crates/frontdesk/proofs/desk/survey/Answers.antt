-- A survey counts the entries, or refuses.
use Rattle.frontdesk.proofs.Calls.{survey_counted, survey_refused}
use Rattle.frontdesk.proofs.desk.survey.Goals as goal

pub returns-in-Ok : goal.returns-in-Ok
returns-in-Ok g c = survey_counted _ c.in-Ok.ensures

pub returns-in-Err : goal.returns-in-Err
returns-in-Err g c = survey_refused _ c.in-Err.ensures
