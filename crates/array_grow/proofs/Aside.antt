-- A slot that can be the backup can be it behind each call, unless it is made a spare.
use Rattle.std.proofs.Common.{◌≡◌, Bool, true, false, refl}

pub not-so : (b : Bool) → (b ≡ true → ⊥) → b ≡ false
not-so true none = absurd (none refl)
not-so false none = refl
