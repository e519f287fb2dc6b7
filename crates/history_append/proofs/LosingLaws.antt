-- The entries of losses, one after another.
use Rattle.std.proofs.Common.{◌≡◌, ℕ, suc, ◌+◌, List, [], ◌∷◌, ◌++◌, refl, sym, ap, ◌∙◌, append_assoc, append-nil, arith}
use Rattle.history_laws.specs.raid_types_the_Who.{Who}
use Rattle.array_members.specs.history_the_Entry.{Entry}
use Rattle.array_members.specs.history_the_Event.{Event}
use Rattle.array_members.specs.history_Plain.{entries_of}
use Rattle.history_append.specs.Losing.{role_loss, role_losses, spare_loss, spare_losses, losses_of}

pub entries-both : (who : Who) (end : ℕ) (xs ys : List Event) → entries_of who end (xs ++ ys) ≡ entries_of who end xs ++ entries_of who end ys
entries-both who end [] ys = refl
entries-both who end (x ∷ xs) ys = ap (λ (l : List Entry). record { caller = who.caller; number = who.number; end = end; event = x } ∷ l) (entries-both who end xs ys)

pub entered-more : (who : Who) (end : ℕ) (old mid new : List Entry) (xs ys : List Event) → mid ≡ old ++ entries_of who end xs → new ≡ mid ++ entries_of who end ys
    → new ≡ old ++ entries_of who end (xs ++ ys)
entered-more who end old mid new xs ys first second =
    second ∙ ap (λ (l : List Entry). l ++ entries_of who end ys) first ∙ append_assoc old (entries_of who end xs) (entries_of who end ys)
    ∙ ap (λ (l : List Entry). old ++ l) (sym (entries-both who end xs ys))

pub entered-none : (who : Who) (end : ℕ) (old : List Entry) (xs : List Event) → xs ≡ [] → old ≡ old ++ entries_of who end xs
entered-none who end old xs none = sym (append-nil old) ∙ ap (λ (l : List Event). old ++ entries_of who end l) (sym none)

pub roles-first : (roles : ℕ) → role_losses roles 0 ≡ []
unfolding role_losses
roles-first roles = refl

roles-more : (roles n : ℕ) → role_losses roles (suc n) ≡ role_losses roles n ++ role_loss roles n
unfolding role_losses
roles-more roles n = refl

pub roles-next : (roles n : ℕ) → role_losses roles (n + 1) ≡ role_losses roles n ++ role_loss roles n
roles-next roles n = let next : n + 1 ≡ suc n = omega arith in ap (role_losses roles) next ∙ roles-more roles n

pub spares-first : (spares : ℕ) → spare_losses spares 0 ≡ []
unfolding spare_losses
spares-first spares = refl

spares-more : (spares n : ℕ) → spare_losses spares (suc n) ≡ spare_losses spares n ++ spare_loss spares n
unfolding spare_losses
spares-more spares n = refl

pub spares-next : (spares n : ℕ) → spare_losses spares (n + 1) ≡ spare_losses spares n ++ spare_loss spares n
spares-next spares n = let next : n + 1 ≡ suc n = omega arith in ap (spare_losses spares) next ∙ spares-more spares n

pub no-losses : losses_of 0 0 ≡ []
unfolding role_losses spare_losses
no-losses = refl
