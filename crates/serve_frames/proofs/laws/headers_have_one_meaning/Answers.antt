use Rattle.serve_frames.proofs.Spelled.{same_request, same_reply}
use Rattle.serve_frames.proofs.laws.headers_have_one_meaning.Goals as goal

pub returns : goal.returns
returns c = record { requests = same_request; replies = same_reply }
