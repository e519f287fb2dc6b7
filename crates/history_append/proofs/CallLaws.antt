-- The entries of losses stand before a call's answer, and change nothing of the list.
use Rattle.std.proofs.Common.{◌≡◌, ℕ, zero, suc, ◌<◌, ◌||◌, ◌==◌, inl, inr, Bool, true, false, cond, Option, List, [], ◌∷◌, ◌++◌, refl, sym, ◌∙◌, ap, subst, arith}
use Rattle.std.proofs.lemmas.Bool.Decides.{nat_tests}
use Rattle.std.proofs.lemmas.Bool.{cases_lt}
use Rattle.std.proofs.lemmas.List.{reverse-append}
use Rattle.std.proofs.lemmas.List.Folds.{list_any-append}
use Rattle.std.specs.Prelude.{fold, reverse, IsTrue, ⊤}
use Rattle.std.specs.List.{list_any, All}
use Rattle.std.proofs.lemmas.List.Elements.{All-nil, All-append, All-cons}
use Rattle.history_laws.specs.raid_types_Sectors.{Sector}
use Rattle.history_laws.specs.raid_types_Shapes.{has_slot}
use Rattle.history_laws.specs.raid_types_the_Who.{Who}
use Rattle.array_members.specs.history_the_Entry.{Entry}
use Rattle.array_members.specs.history_the_Event.{Event}
use Rattle.array_members.specs.history_the_Event_TheVariants.{Lost, SpareLost}
use Rattle.array_members.specs.history_the_LostCause_TheVariants.{Fault}
use Rattle.array_members.specs.history_the_Request.{Request}
use Rattle.array_members.specs.history_the_Request_TheVariants.{Write as AsksWrite}
use Rattle.array_members.specs.history_Flat.{length_after, limit_after, values_after}
use Rattle.array_members.specs.history_Transfers.{last_end_from}
use Rattle.array_members.specs.history_Losses.{is_resync_end}
use Rattle.array_members.specs.history_Fits.{IsTornOf, AreTornOf}
use Rattle.array_members.specs.history_Plain.{loses_role, entries_of}
use Rattle.array_members.specs.history_OneShape.{gives_role, is_lost}
use Rattle.history_laws.proofs.OneShapeGrowing.{call-ends}
use Rattle.history_append.specs.Losing.{role_loss, role_losses, spare_loss, spare_losses, losses_of}
use Rattle.history_append.proofs.PlainLaws.{one}
use Rattle.history_append.proofs.LosingLaws.{entries-both}

abbrev pub AreLossEvents : List Event → Type 0
AreLossEvents [] = ⊤
AreLossEvents (Lost role Fault ∷ events) = AreLossEvents events
AreLossEvents (SpareLost slot ∷ events) = AreLossEvents events
AreLossEvents (event ∷ events) = ⊥

losses-both : (xs ys : List Event) → AreLossEvents xs → AreLossEvents ys → AreLossEvents (xs ++ ys)
losses-both [] ys xs-are ys-are = ys-are
losses-both (Lost role Fault ∷ xs) ys xs-are ys-are = losses-both xs ys xs-are ys-are
losses-both (SpareLost slot ∷ xs) ys xs-are ys-are = losses-both xs ys xs-are ys-are
losses-both (event ∷ xs) ys xs-are ys-are = absurd xs-are

roles-are : (roles n : ℕ) → AreLossEvents (role_losses roles n)
unfolding role_losses
roles-are roles zero = tt
roles-are roles (suc n) = losses-both (role_losses roles n) (role_loss roles n) (roles-are roles n) (by (has_slot roles n))
  where
    by : (b : Bool) → AreLossEvents (cond b (Lost n Fault ∷ []) [])
    by true = tt
    by false = tt

spares-are : (spares n : ℕ) → AreLossEvents (spare_losses spares n)
unfolding spare_losses
spares-are spares zero = tt
spares-are spares (suc n) = losses-both (spare_losses spares n) (spare_loss spares n) (spares-are spares n) (by (has_slot spares n))
  where
    by : (b : Bool) → AreLossEvents (cond b (SpareLost n ∷ []) [])
    by true = tt
    by false = tt

pub losses-are : (roles spares : ℕ) → AreLossEvents (losses_of roles spares)
losses-are roles spares = losses-both (role_losses roles 16) (spare_losses spares 32) (roles-are roles 16) (spares-are spares 32)

-- ---- they change nothing of the list

pub length-losses : (who : Who) (end : ℕ) (xs tail : List Event) → AreLossEvents xs → (n : ℕ)
    → fold (λ m e. length_after m e.event) n (entries_of who end (xs ++ tail)) ≡ fold (λ m e. length_after m e.event) n (entries_of who end tail)
length-losses who end [] tail are n = refl
length-losses who end (Lost role Fault ∷ xs) tail are n = length-losses who end xs tail are n
length-losses who end (SpareLost slot ∷ xs) tail are n = length-losses who end xs tail are n
length-losses who end (event ∷ xs) tail are n = absurd are

pub limit-losses : (who : Who) (end : ℕ) (xs tail : List Event) → AreLossEvents xs → (limit : Option ℕ)
    → fold (λ (limit : Option ℕ) e. limit_after limit e.event) limit (entries_of who end (xs ++ tail)) ≡ fold (λ (limit : Option ℕ) e. limit_after limit e.event) limit (entries_of who end tail)
limit-losses who end [] tail are limit = refl
limit-losses who end (Lost role Fault ∷ xs) tail are limit = limit-losses who end xs tail are limit
limit-losses who end (SpareLost slot ∷ xs) tail are limit = limit-losses who end xs tail are limit
limit-losses who end (event ∷ xs) tail are limit = absurd are

pub values-losses : (who : Who) (end : ℕ) (xs tail : List Event) → AreLossEvents xs → (x : ℕ) (values : List Sector)
    → fold (λ values e. values_after x values e.event) values (entries_of who end (xs ++ tail)) ≡ fold (λ values e. values_after x values e.event) values (entries_of who end tail)
values-losses who end [] tail are x values = refl
values-losses who end (Lost role Fault ∷ xs) tail are x values = values-losses who end xs tail are x values
values-losses who end (SpareLost slot ∷ xs) tail are x values = values-losses who end xs tail are x values
values-losses who end (event ∷ xs) tail are x values = absurd are

-- nor do they end a resync
pub ends-losses : (who : Who) (end : ℕ) (xs tail : List Event) → AreLossEvents xs
    → list_any (λ e. is_resync_end e.event) (entries_of who end (xs ++ tail)) ≡ list_any (λ e. is_resync_end e.event) (entries_of who end tail)
ends-losses who end [] tail are = refl
ends-losses who end (Lost role Fault ∷ xs) tail are = ends-losses who end xs tail are
ends-losses who end (SpareLost slot ∷ xs) tail are = ends-losses who end xs tail are
ends-losses who end (event ∷ xs) tail are = absurd are

-- none of these entries gives a role back
abbrev pub GivesNone : List Entry → Type 0
GivesNone entries = (role : ℕ) → list_any (λ e. gives_role role e.event) entries ≡ false

-- nor do losses
pub gives-losses : (who : Who) (end : ℕ) (xs tail : List Event) → AreLossEvents xs → GivesNone (entries_of who end tail) → GivesNone (entries_of who end (xs ++ tail))
gives-losses who end [] tail are none = none
gives-losses who end (Lost role Fault ∷ xs) tail are none = gives-losses who end xs tail are none
gives-losses who end (SpareLost slot ∷ xs) tail are none = gives-losses who end xs tail are none
gives-losses who end (event ∷ xs) tail are none = absurd are

-- ---- where a call ended

pub last_end-behind : (first : ℕ) (entries : List Entry) (who : Who) (end : ℕ) (inner : List Event) (event : Event)
    → last_end_from first (entries ++ entries_of who end (inner ++ event ∷ [])) ≡ end
last_end-behind first entries who end [] event = call-ends first entries who end event []
last_end-behind first entries who end (x ∷ inner) event = call-ends first entries who end x (inner ++ event ∷ [])

-- ---- none of them is a torn write

pub torn-both : (request : Request) (xs ys : List Entry) → AreTornOf request xs → AreTornOf request ys → AreTornOf request (xs ++ ys)
torn-both request [] ys xs-are ys-are = ys-are
torn-both request (x ∷ xs) ys xs-are ys-are = (xs-are.0, torn-both request xs ys xs-are.1 ys-are)

pub torn-reverse : (request : Request) (xs : List Entry) → AreTornOf request xs → AreTornOf request (reverse xs)
torn-reverse request [] are = tt
torn-reverse request (x ∷ xs) are =
    subst (λ (l : List Entry). AreTornOf request l) (sym (reverse-append (x ∷ []) xs)) (torn-both request (reverse xs) (x ∷ []) (torn-reverse request xs are.1) (are.0, tt))

no-role : (request : Request) (role : ℕ) → IsTornOf request (Lost role Fault)
no-role (AsksWrite at body) role = tt
no-role request role = tt

no-spare : (request : Request) (slot : ℕ) → IsTornOf request (SpareLost slot)
no-spare (AsksWrite at body) slot = tt
no-spare request slot = tt

pub torn-losses : (request : Request) (who : Who) (end : ℕ) (xs : List Event) → AreLossEvents xs → AreTornOf request (entries_of who end xs)
torn-losses request who end [] are = tt
torn-losses request who end (Lost role Fault ∷ xs) are = (no-role request role, torn-losses request who end xs are)
torn-losses request who end (SpareLost slot ∷ xs) are = (no-spare request slot, torn-losses request who end xs are)
torn-losses request who end (event ∷ xs) are = absurd are

-- ---- each role has its entry

told-role : (role roles n : ℕ) (who : Who) (end : ℕ) → role < n → has_slot roles role ≡ true → list_any (λ e. loses_role role e.event) (entries_of who end (role_losses roles n)) ≡ true
unfolding role_losses
told-role role roles zero who end lt has = absurd (omega (arith, lt))
told-role role roles (suc n) who end lt has =
    ap (λ (l : List Entry). list_any (λ e. loses_role role e.event) l) (entries-both who end (role_losses roles n) (role_loss roles n))
    ∙ list_any-append (λ e. loses_role role e.event) (entries_of who end (role_losses roles n)) (entries_of who end (role_loss roles n))
    ∙ elim (cases_lt role n) [
      | inl below ↦ ap (λ (b : Bool). b || list_any (λ e. loses_role role e.event) (entries_of who end (role_loss roles n))) (told-role role roles n who end below has)
      | inr above ↦
          let same : role ≡ n = omega (arith, lt, above) in
          ap (λ (b : Bool). list_any (λ e. loses_role role e.event) (entries_of who end (role_losses roles n)) || b) (here same)
          ∙ last (list_any (λ e. loses_role role e.event) (entries_of who end (role_losses roles n)))
    ]
  where
    last : (b : Bool) → (b || true) ≡ true
    last b = grind (arith, nat_tests)

    itself : (a b : ℕ) → a ≡ b → ((b == a) || false) ≡ true
    itself a b e = grind (arith, nat_tests, e)

    here : role ≡ n → list_any (λ e. loses_role role e.event) (entries_of who end (role_loss roles n)) ≡ true
    here same =
        ap (λ (b : Bool). list_any (λ e. loses_role role e.event) (entries_of who end (cond b (Lost n Fault ∷ []) []))) (ap (has_slot roles) (sym same) ∙ has)
        ∙ itself role n same

pub told-losses : (role roles spares : ℕ) (who : Who) (end : ℕ) (tail : List Event) → role < 16 → has_slot roles role ≡ true
    → IsTrue (is_lost (entries_of who end (losses_of roles spares ++ tail)) role)
told-losses role roles spares who end tail lt has =
    ap (λ (l : List Entry). list_any (λ e. loses_role role e.event) l) (entries-both who end (losses_of roles spares) tail)
    ∙ list_any-append (λ e. loses_role role e.event) (entries_of who end (losses_of roles spares)) (entries_of who end tail)
    ∙ ap (λ (b : Bool). b || list_any (λ e. loses_role role e.event) (entries_of who end tail))
    (ap (λ (l : List Entry). list_any (λ e. loses_role role e.event) l) (entries-both who end (role_losses roles 16) (spare_losses spares 32))
    ∙ list_any-append (λ e. loses_role role e.event) (entries_of who end (role_losses roles 16)) (entries_of who end (spare_losses spares 32))
    ∙ ap (λ (b : Bool). b || list_any (λ e. loses_role role e.event) (entries_of who end (spare_losses spares 32))) (told-role role roles 16 who end lt has))

-- ---- a fact of each of them

all-roles : (P : Event → Type 0) (who : Who) (end roles n : ℕ) → ((role : ℕ) → has_slot roles role ≡ true → P (Lost role Fault)) → All (λ e. P e.event) (entries_of who end (role_losses roles n))
unfolding role_losses
all-roles P who end roles zero each = All-nil (λ e. P e.event)
all-roles P who end roles (suc n) each =
    subst (λ (l : List Entry). All (λ e. P e.event) l) (sym (entries-both who end (role_losses roles n) (role_loss roles n)))
    (All-append (λ e. P e.event) (entries_of who end (role_losses roles n)) (entries_of who end (role_loss roles n)) (all-roles P who end roles n each) (by (has_slot roles n) refl))
  where
    by : (b : Bool) → has_slot roles n ≡ b → All (λ e. P e.event) (entries_of who end (cond b (Lost n Fault ∷ []) []))
    by true has = All-cons (λ e. P e.event) (one who end (Lost n Fault)) [] (each n has) (All-nil (λ e. P e.event))
    by false none = All-nil (λ e. P e.event)

all-spares : (P : Event → Type 0) (who : Who) (end spares n : ℕ) → ((slot : ℕ) → has_slot spares slot ≡ true → P (SpareLost slot)) → All (λ e. P e.event) (entries_of who end (spare_losses spares n))
unfolding spare_losses
all-spares P who end spares zero each = All-nil (λ e. P e.event)
all-spares P who end spares (suc n) each =
    subst (λ (l : List Entry). All (λ e. P e.event) l) (sym (entries-both who end (spare_losses spares n) (spare_loss spares n)))
    (All-append (λ e. P e.event) (entries_of who end (spare_losses spares n)) (entries_of who end (spare_loss spares n)) (all-spares P who end spares n each) (by (has_slot spares n) refl))
  where
    by : (b : Bool) → has_slot spares n ≡ b → All (λ e. P e.event) (entries_of who end (cond b (SpareLost n ∷ []) []))
    by true has = All-cons (λ e. P e.event) (one who end (SpareLost n)) [] (each n has) (All-nil (λ e. P e.event))
    by false none = All-nil (λ e. P e.event)

pub all-losses : (P : Event → Type 0) (who : Who) (end roles spares : ℕ) (tail : List Event) → ((role : ℕ) → has_slot roles role ≡ true → P (Lost role Fault))
    → ((slot : ℕ) → has_slot spares slot ≡ true → P (SpareLost slot)) → All (λ e. P e.event) (entries_of who end tail)
    → All (λ e. P e.event) (entries_of who end (losses_of roles spares ++ tail))
all-losses P who end roles spares tail each-role each-spare rest =
    subst (λ (l : List Entry). All (λ e. P e.event) l) (sym (entries-both who end (losses_of roles spares) tail))
    (All-append (λ e. P e.event) (entries_of who end (losses_of roles spares)) (entries_of who end tail)
    (subst (λ (l : List Entry). All (λ e. P e.event) l) (sym (entries-both who end (role_losses roles 16) (spare_losses spares 32)))
    (All-append (λ e. P e.event) (entries_of who end (role_losses roles 16)) (entries_of who end (spare_losses spares 32)) (all-roles P who end roles 16 each-role) (all-spares P who end spares 32 each-spare)))
    rest)
