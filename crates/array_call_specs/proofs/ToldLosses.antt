-- The losses that a call tells.
use Rattle.std.proofs.Common.{◌≡◌, inl, inr, ℕ, zero, suc, ◌<◌, Bool, true, List, [], ◌∷◌, cond, refl, sym, ◌∙◌, ap, subst, arith}
use Rattle.std.proofs.lemmas.Bool.{cases_lt}
use Rattle.std.proofs.lemmas.List.Elements.{Contains-append_left, Contains-append_right}
use Rattle.std.specs.List.{Contains}
use Rattle.raid_types.specs.Shapes.{has_slot}
use Rattle.history_append.specs.history_the_Event.{Event}
use Rattle.history_append.specs.history_the_Event_TheVariants.{Lost}
use Rattle.history_append.specs.history_the_LostCause_TheVariants.{Fault}
use Rattle.history_append.specs.Losing.{role_loss, role_losses, spare_losses, losses_of}

role-among : (roles n role : ℕ) → role < n → has_slot roles role ≡ true → Contains (role_losses roles n) (Lost role Fault)
unfolding role_losses
role-among roles zero role lt has = absurd (omega (arith, lt))
role-among roles (suc n) role lt has = elim (cases_lt role n) [
  | inl below ↦ Contains-append_left (role_losses roles n) (role_loss roles n) (Lost role Fault) (role-among roles n role below has)
  | inr above ↦
      let is : role ≡ n = omega (arith, lt, above) in
      let here : role_loss roles n ≡ Lost role Fault ∷ [] = subst (λ (r : ℕ). role_loss roles n ≡ Lost r Fault ∷ []) (sym is) (ap (λ (b : Bool). cond b (Lost n Fault ∷ []) []) (ap (has_slot roles) (sym is) ∙ has)) in
      Contains-append_right (role_losses roles n) (role_loss roles n) (Lost role Fault) (subst (λ (l : List Event). Contains l (Lost role Fault)) (sym here) (0, omega arith, refl))
]

-- each role that is lost is told
pub role-told : (roles spares role : ℕ) → role < 16 → has_slot roles role ≡ true → Contains (losses_of roles spares) (Lost role Fault)
role-told roles spares role lt has = Contains-append_left (role_losses roles 16) (spare_losses spares 32) (Lost role Fault) (role-among roles 16 role lt has)
