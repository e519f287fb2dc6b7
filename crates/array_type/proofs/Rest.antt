-- What an array keeps, by whether a reshape is active in it.
use Rattle.std.proofs.Common.{◌≡◌, Bool, true, false, refl}
use Rattle.array_type.specs.One.{KeepsBy}

pub in-rest : {active : Bool} {moving still : Type 0} → active ≡ false → still → KeepsBy active moving still
in-rest is kept = record { moves = λ yes. absurd (let e = is in let f = yes in cc); rests = λ no. kept }

pub in-move : {active : Bool} {moving still : Type 0} → active ≡ true → moving → KeepsBy active moving still
in-move is kept = record { moves = λ yes. kept; rests = λ no. absurd (let e = is in let f = no in cc) }

pub on-both : {P : Type 0} (active : Bool) → (active ≡ true → P) → (active ≡ false → P) → P
on-both true moving still = moving refl
on-both false moving still = still refl
