-- What a file holds that somebody may want to keep, and the line that tells it.
use Rattle.std.specs.Prelude.{ℕ, List, [], ◌∷◌, ◌++◌, codes, decimal, Option, Some, None}
use Rattle.uuid.specs.Text.{hyphenated_text, lower}
use Rattle.sb_codec.specs.declared.sb.Sb.{Sb}
use Rattle.tool_warnings.specs.Fronts.{superblock_at}
use Rattle.tool_warnings.specs.Systems.{all_systems, system_in, words_of}
use Rattle.tool_warnings.specs.declared.found.Found.{Found}
use Rattle.tool_warnings.specs.declared.found.Found.TheVariants.{Member, Other}
use Rattle.tool_warnings.specs.declared.systems.System.{System}

-- a superblock comes before any magic
abbrev pub found_by : Option Sb → Option System → Option Found
found_by (Some sb) system = Some (Member sb.set_uuid)
found_by None (Some system) = Some (Other system)
found_by None None = None

unfoldable pub found_in : List ℕ → Option Found
found_in front = found_by (superblock_at front) (system_in all_systems front)

abbrev pub found_words : Found → List ℕ
found_words (Member uuid) = codes "be a member of array " ++ hyphenated_text lower uuid
found_words (Other system) = codes "hold " ++ words_of system

abbrev pub found_line : ℕ → List ℕ → Found → List ℕ
found_line slot path found =
    (codes "mdgrow: slot " ++ decimal slot) ++ (codes " (" ++ path ++ codes ") appears to ") ++ found_words found ++ 10 ∷ []
