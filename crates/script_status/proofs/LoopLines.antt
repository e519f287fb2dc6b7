-- Lines that a loop appends, one after another.
use Rattle.std.proofs.Common.{◌≡◌, ℕ, ◌+◌, ◌<◌, ◌≤◌, List, [], ◌∷◌, ◌++◌, length, get_or, drop, codes, decimal, ap, sym, ◌∙◌, append-nil}
use Rattle.std.proofs.lemmas.List.{drop_more, drop_all}
use Rattle.script.specs.raid_types_the_Role.{Role}
use Rattle.script_status.specs.Texts.{holder, role_lines, spare_lines}

-- one role of those that are left, and the others
pub one_role : (rs : List Role) (i : ℕ) (x : Role) (text whole : List ℕ) → i < length rs → text ++ role_lines i (drop i rs) ≡ whole
    → text ++ (role_lines i (get_or rs i x ∷ []) ++ role_lines (i + 1) (drop (i + 1) rs)) ≡ whole
one_role rs i x text whole lt is =
    ap (λ t. text ++ t) (ap (λ l. l ++ role_lines (i + 1) (drop (i + 1) rs)) (append-nil (codes "role " ++ decimal i ++ holder (get_or rs i x) ++ codes "\n"))
    ∙ ap (role_lines i) (sym (drop_more rs i x lt))) ∙ is

pub all_roles : (rs : List Role) (i : ℕ) (text whole : List ℕ) → length rs ≤ i → text ++ role_lines i (drop i rs) ≡ whole → text ≡ whole
all_roles rs i text whole le is = sym (append-nil text) ∙ ap (λ r. text ++ role_lines i r) (sym (drop_all i rs le)) ∙ is

-- one spare of those that are left, and the others
pub one_spare : (slots : List ℕ) (i : ℕ) (text whole : List ℕ) → i < length slots → text ++ spare_lines (drop i slots) ≡ whole
    → text ++ (spare_lines (get_or slots i 0 ∷ []) ++ spare_lines (drop (i + 1) slots)) ≡ whole
one_spare slots i text whole lt is =
    ap (λ t. text ++ t) (ap (λ l. l ++ spare_lines (drop (i + 1) slots)) (append-nil (codes "spare slot " ++ decimal (get_or slots i 0) ++ codes "\n"))
    ∙ ap spare_lines (sym (drop_more slots i 0 lt))) ∙ is

pub all_spares : (slots : List ℕ) (i : ℕ) (text whole : List ℕ) → length slots ≤ i → text ++ spare_lines (drop i slots) ≡ whole → text ≡ whole
all_spares slots i text whole le is = sym (append-nil text) ∙ ap (λ r. text ++ spare_lines r) (sym (drop_all i slots le)) ∙ is
