-- The line that tells that a file couldn't be locked.
use Rattle.std.specs.Prelude.{ℕ, if◌then◌else◌, List, [], ◌∷◌, ◌++◌, codes, string_bytes}
use Rattle.tool_warnings.specs.declared.looked.Looked.{Looked}

abbrev pub lock_line : Looked → List ℕ
lock_line looked =
    if looked.is_locked then []
    else codes "mdgrow: " ++ string_bytes looked.path ++ codes " is not locked, since its file system has no locks: nothing else may write to it now" ++ 10 ∷ []
