-- What was seen before what.
use Rattle.std.proofs.Common.{◌≡◌, ℕ, ◌≤◌, Bool, true, false, List, [], ◌∷◌, ◌++◌, length, drop, refl, sym, ap, ◌∙◌, subst, Option, Some, None, arith, append_assoc, append-nil, length-append}
use Rattle.std.specs.Option.{option_map_or}
use Rattle.std.specs.List.{All}
use Rattle.std.proofs.lemmas.List.Elements.{All-head, All-tail}
use Rattle.std.proofs.Math.Seq.{drop-append_seam}
use Rattle.history_laws.specs.raid_types_the_Who.{Who}
use Rattle.history_laws.specs.bank_the_Operation.{Operation}
use Rattle.array_reply_specs.specs.history_the_Entry.{Entry}
use Rattle.array_reply_specs.specs.history_Flat.{last_of}
use Rattle.array_reply_specs.specs.history_Transfers.{last_end_from}
use Rattle.array_reply_specs.specs.history_Growing.{BeginAnother}
use Rattle.array_reply_specs.specs.history_OneShape.{IsOfCall}
use Rattle.array_reply_specs.specs.history_Seen.{Seen}
use Rattle.history_laws.proofs.OneShapeGrowing.{none-another}
use Rattle.history_caller_laws.specs.Callers.{IsWhole, RepliesFrom, IsBefore, CallsComeLater, SeenGoesOn, ShorterIsBefore}
use Rattle.history_caller_laws.proofs.PlaceLaws.{last-behind, ends, goes-on, call-apart}

-- ---- lists that begin one list

shorter-list : {A : Type 0} (xs ys a b : List A) → xs ++ a ≡ ys ++ b → length xs ≤ length ys → (c : List A) × (ys ≡ xs ++ c)
shorter-list [] ys a b is le = (ys, refl)
shorter-list (x ∷ xs) [] a b is le = absurd (omega arith)
shorter-list (x ∷ xs) (y ∷ ys) a b is le =
    let first : x ≡ y = cc in
    let more : xs ++ a ≡ ys ++ b = cc in
    let r = shorter-list xs ys a b more (omega arith) in
    (r.0, λ i. sym first i ∷ r.1 i)

rest-is : {A : Type 0} (xs a b : List A) → xs ++ a ≡ xs ++ b → a ≡ b
rest-is xs a b is = sym (drop-append_seam xs a) ∙ ap (λ l. drop (length xs) l) is ∙ drop-append_seam xs b

-- ---- replies, and whole calls

replies-sooner : (high low : ℕ) (xs : List Entry) → low ≤ high → RepliesFrom high xs → RepliesFrom low xs
replies-sooner high low [] le later = tt
replies-sooner high low (e ∷ xs) le later = ((λ on. let h = later.0 on in omega (arith, le, h)), replies-sooner high low xs le later.1)

replies-both : (mark : ℕ) (xs ys : List Entry) → RepliesFrom mark xs → RepliesFrom mark ys → RepliesFrom mark (xs ++ ys)
replies-both mark [] ys first second = second
replies-both mark (e ∷ []) ys first second = ((λ on. first.0 refl), second)
replies-both mark (e ∷ n ∷ r) ys first second = (first.0, replies-both mark (n ∷ r) ys first.1 second)

replies-cut : (mark : ℕ) (xs ys : List Entry) → BeginAnother (last_of xs) ys → RepliesFrom mark (xs ++ ys) → RepliesFrom mark xs
replies-cut mark [] ys apart later = tt
replies-cut mark (e ∷ []) ys apart later = ((λ on. later.0 (ends e ys apart)), tt)
replies-cut mark (e ∷ n ∷ r) ys apart later = (later.0, replies-cut mark (n ∷ r) ys apart later.1)

-- the last entry ends its call
last-from : (mark first : ℕ) (e : Entry) (xs : List Entry) → RepliesFrom mark (e ∷ xs) → mark ≤ last_end_from first (e ∷ xs)
last-from mark first e [] later = later.0 refl
last-from mark first e (n ∷ r) later = last-from mark first n r later.1

end-behind : (first : ℕ) (xs : List Entry) (e : Entry) (more : List Entry) → last_end_from first (xs ++ e ∷ more) ≡ last_end_from first (e ∷ more)
end-behind first xs e more = ap (λ (last : Option Entry). option_map_or (λ (x : Entry). x.end) last first) (last-behind xs e more)

apart-both : (last : Option Entry) (xs ys : List Entry) → BeginAnother last xs → (xs ≡ [] → BeginAnother last ys) → BeginAnother last (xs ++ ys)
apart-both None xs ys first second = tt
apart-both (Some l) [] ys first second = second refl
apart-both (Some l) (e ∷ xs) ys first second = first

apart-cut : (last : Option Entry) (xs ys : List Entry) → BeginAnother last (xs ++ ys) → BeginAnother last xs
apart-cut last [] ys apart = none-another last
apart-cut None (e ∷ xs) ys apart = tt
apart-cut (Some l) (e ∷ xs) ys apart = apart

apart-end : (xs c ys : List Entry) → BeginAnother (last_of (xs ++ c)) ys → BeginAnother (last_of c) ys
apart-end xs [] ys apart = tt
apart-end xs (e ∷ c) ys apart = subst (λ (last : Option Entry). BeginAnother last ys) (last-behind xs e c) apart

-- ---- later

-- what was seen begins itself
pub seen-self : {tells : Type 0} (x : Seen) → IsBefore tells x x
seen-self x = record {
  begins = record {
    scope = refl;
    first = refl;
    start = λ t. refl;
    tape = λ t. ([], sym (append-nil x.world.tape));
    entries = ([], sym (append-nil x.entries));
  };
  apart = none-another (last_of x.entries);
  later = λ t. tt;
}

pub seen-on : {tells : Type 0} → SeenGoesOn tells
seen-on {tells} x y z p q =
    let a = p.begins.entries.0 in
    let b = q.begins.entries.0 in
    record {
      begins = record {
        scope = q.begins.scope ∙ p.begins.scope;
        first = q.begins.first ∙ p.begins.first;
        start = λ t. q.begins.start t ∙ p.begins.start t;
        tape = λ t. (
          (p.begins.tape t).0 ++ (q.begins.tape t).0,
          (q.begins.tape t).1 ∙ ap (λ (l : List Operation). l ++ (q.begins.tape t).0) (p.begins.tape t).1 ∙ append_assoc x.world.tape (p.begins.tape t).0 (q.begins.tape t).0,
        );
        entries = (a ++ b, q.begins.entries.1 ∙ ap (λ (l : List Entry). l ++ b) p.begins.entries.1 ∙ append_assoc x.entries a b);
      };
      apart = apart-both (last_of x.entries) a b p.apart (λ none.
          subst (λ (l : List Entry). BeginAnother (last_of l) b) (p.begins.entries.1 ∙ ap (λ (l : List Entry). x.entries ++ l) none ∙ append-nil x.entries) q.apart);
      later = λ t. replies-both (length x.world.tape) a b (p.later t) (replies-sooner (length y.world.tape) (length x.world.tape) b (longer t) (q.later t));
    }
  where
    longer : tells → length x.world.tape ≤ length y.world.tape
    longer t = let is = ap (λ (l : List Operation). length l) (p.begins.tape t).1 in let sum = length-append x.world.tape (p.begins.tape t).0 in omega (arith, is, sum)

-- ---- the shorter

module _ {tells : Type 0} (x y now : Seen) (whole : IsWhole tells x) (whole' : IsWhole tells y) (p : IsBefore tells x now) (q : IsBefore tells y now)
    (le : length x.entries ≤ length y.entries) where
  between : (c : List Entry) × (y.entries ≡ x.entries ++ c)
  between = shorter-list x.entries y.entries p.begins.entries.0 q.begins.entries.0 (sym p.begins.entries.1 ∙ q.begins.entries.1) le

  -- what is behind the first one goes on behind the second
  parts : p.begins.entries.0 ≡ between.0 ++ q.begins.entries.0
  parts = rest-is x.entries p.begins.entries.0 (between.0 ++ q.begins.entries.0)
      (sym p.begins.entries.1 ∙ q.begins.entries.1 ∙ ap (λ (l : List Entry). l ++ q.begins.entries.0) between.1 ∙ append_assoc x.entries between.0 q.begins.entries.0)

  later-between : tells → RepliesFrom (length x.world.tape) between.0
  later-between t = replies-cut (length x.world.tape) between.0 q.begins.entries.0
      (apart-end x.entries between.0 q.begins.entries.0 (subst (λ (l : List Entry). BeginAnother (last_of l) q.begins.entries.0) between.1 q.apart))
      (subst (λ (l : List Entry). RepliesFrom (length x.world.tape) l) parts (p.later t))

  firsts : y.world.first ≡ x.world.first
  firsts = sym q.begins.first ∙ p.begins.first

  tapes-rise : tells → (c : List Entry) → between.0 ≡ c → length x.world.tape ≤ length y.world.tape
  tapes-rise t [] is =
      let same : y.entries ≡ x.entries = between.1 ∙ ap (λ (l : List Entry). x.entries ++ l) is ∙ append-nil x.entries in
      let ended : length x.world.tape ≡ length y.world.tape = sym (whole t) ∙ ap (λ (l : List Entry). last_end_from x.world.first l) (sym same)
      ∙ ap (λ (n : ℕ). last_end_from n y.entries) (sym firsts) ∙ whole' t in
      omega (arith, ended)
  tapes-rise t (e ∷ c) is =
      let from : length x.world.tape ≤ last_end_from y.world.first (e ∷ c) = last-from (length x.world.tape) y.world.first e c
      (subst (λ (l : List Entry). RepliesFrom (length x.world.tape) l) is (later-between t)) in
      let ended : last_end_from y.world.first (e ∷ c) ≡ length y.world.tape =
      sym (end-behind y.world.first x.entries e c) ∙ ap (λ (l : List Entry). last_end_from y.world.first (x.entries ++ l)) (sym is)
      ∙ ap (λ (l : List Entry). last_end_from y.world.first l) (sym between.1) ∙ whole' t in
      omega (arith, from, ended)

  shorter : IsBefore tells x y
  shorter = record {
    begins = record {
      scope = sym q.begins.scope ∙ p.begins.scope;
      first = firsts;
      start = λ t. sym (q.begins.start t) ∙ p.begins.start t;
      tape = λ t. shorter-list x.world.tape y.world.tape (p.begins.tape t).0 (q.begins.tape t).0 (sym (p.begins.tape t).1 ∙ (q.begins.tape t).1) (tapes-rise t between.0 refl);
      entries = between;
    };
    apart = apart-cut (last_of x.entries) between.0 q.begins.entries.0 (subst (λ (l : List Entry). BeginAnother (last_of x.entries) l) parts p.apart);
    later = later-between;
  }

pub shorter-before : {tells : Type 0} → ShorterIsBefore tells
shorter-before x y now whole whole' p q le = shorter x y now whole whole' p q le

-- ---- a call

-- its one reply is its last entry
one-reply : (who : Who) (mark : ℕ) (inner : List Entry) (reply : Entry) → All (IsOfCall who) inner → IsOfCall who reply → mark ≤ reply.end → RepliesFrom mark (inner ++ reply ∷ [])
one-reply who mark [] reply own last le = ((λ on. le), tt)
one-reply who mark (e ∷ []) reply own last le =
    ((λ on. absurd (no on (goes-on who e reply [] (All-head (IsOfCall who) e [] own) last))), one-reply who mark [] reply (All-tail (IsOfCall who) e [] own) last le)
  where
    no : {b : Bool} → b ≡ true → b ≡ false → ⊥
    no on off = cc
one-reply who mark (e ∷ n ∷ r) reply own last le =
    let after = All-tail (IsOfCall who) e (n ∷ r) own in (
      (λ on. absurd (no on (goes-on who e n (r ++ reply ∷ []) (All-head (IsOfCall who) e (n ∷ r) own) (All-head (IsOfCall who) n r after)))),
      one-reply who mark
          (n ∷ r) reply after last le,
    )
  where
    no : {b : Bool} → b ≡ true → b ≡ false → ⊥
    no on off = cc

pub calls-later : {tells : Type 0} → CallsComeLater tells
calls-later {tells} size old new who request c begins whole = record {
  begins = record {
    scope = begins.scope;
    first = begins.first;
    start = begins.start;
    tape = begins.tape;
    entries = (c.inner ++ c.reply ∷ [], c.is);
  };
  apart = call-apart who old.entries c.inner c.reply c.number c.own c.last;
  later = λ t. one-reply who (length old.world.tape) c.inner c.reply c.own c.last (after t);
}
  where
    ends-new : last_end_from new.world.first new.entries ≡ c.reply.end
    ends-new = ap (λ (l : List Entry). last_end_from new.world.first l) (c.is ∙ sym (append_assoc old.entries c.inner (c.reply ∷ [])))
        ∙ end-behind new.world.first (old.entries ++ c.inner) c.reply []

    after : tells → length old.world.tape ≤ c.reply.end
    after t =
        let is = ap (λ (l : List Operation). length l) (begins.tape t).1 in
        let sum = length-append old.world.tape (begins.tape t).0 in
        let end = sym ends-new ∙ whole t in
        omega (arith, is, sum, end)
