-- How long the text of a uuid is.
use Rattle.std.proofs.Common.{◌≡◌, ℕ, List, length}
use Rattle.uuid.specs.Text.{hyphenated_text, lower}
use Rattle.uuid.proofs.TextLemmas.{by_index_length}

pub uuid_length : (uuid : List ℕ) → length (hyphenated_text lower uuid) ≡ 36
uuid_length uuid = by_index_length 36 _
