-- Calls on the session that an image holds. The session that a call left goes into the image, after a refusal too.
use Rattle.spongewrap.specs.Sessions as sessions
use Rattle.image.specs.Image.{image_of}
use Rattle.image.specs.Calls.{Seen, seen}

abbrev pub of_session : sessions.Seen → Seen
of_session w = seen w.answer.number (image_of w.answer.session) w.out
