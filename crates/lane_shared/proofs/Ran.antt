-- What a lane appended to an empty row.
use Rattle.std.proofs.Common.{◌≡◌, List, [], ◌++◌, sym, ap, ◌∙◌, subst}
use Rattle.history_caller_laws.specs.history_the_Request.{Request}
use Rattle.lane_shared.specs.array_requests_the_Reply.{Reply}
use Rattle.lane_shared.specs.Carried.{Carried}
use Rattle.lane_shared.specs.Lane.{AreDone}

pub all-of : (old new : Carried) (requests : List Request) (row made all : List Reply) → row ≡ [] → all ≡ row ++ made → AreDone old new requests made → AreDone old new requests all
all-of old new requests row made all empty is done =
    subst (λ (l : List Reply). AreDone old new requests l) (sym (is ∙ ap (λ (l : List Reply). l ++ made) empty)) done
