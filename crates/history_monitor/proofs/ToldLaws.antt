-- What is told of the alerts of two stretches is told of both together.
use Rattle.std.proofs.Common.{◌≡◌, ℕ, ◌+◌, ◌<◌, ◌≤◌, length, take, drop, slice_get, Option, Some, Bool, inl, inr, List, [], ◌∷◌, ◌++◌, refl, sym, ap, ap₂, ◌∙◌}
use Rattle.std.proofs.lemmas.List.Elements.{filter-append}
use Rattle.history_monitor.specs.declared.alerts.Alert.{Alert}
use Rattle.history_monitor.specs.declared.alerts.AlertKind.{AlertKind}
use Rattle.history.specs.declared.events.Entry.{Entry}
use Rattle.history_monitor.specs.declared.past.Past.{Past}
use Rattle.history_monitor.specs.Alerts.{past_of, as_list, alert_at, alerts_behind, alerts, alerts_since}
use Rattle.history_monitor.proofs.AlertLaws.{behind-more, since-all}
use Rattle.history_monitor.specs.Urgent.{is_urgent}
use Rattle.history_monitor.specs.Told.{AreSifted, AreTold, AreAdded}

module _ (answers : AlertKind → ℕ → Bool → Type 0) where
  pub sifted-append : (one two told_one told_two : List Alert) → AreSifted answers one told_one → AreSifted answers two told_two
      → AreSifted answers (one ++ two) (told_one ++ told_two)
  sifted-append [] two told_one told_two first second = rw first second
  sifted-append (alert ∷ one) two told_one told_two (inl wanted) second =
      inl (wanted.0, (wanted.1.0 ++ told_two, ap (λ l. l ++ told_two) wanted.1.1, sifted-append one two wanted.1.0 told_two wanted.1.2 second))
  sifted-append (alert ∷ one) two told_one told_two (inr refused) second =
      inr (refused.0, sifted-append one two told_one told_two refused.1 second)

  pub told-append : (one two told_one told_two : List Alert) → AreTold answers one told_one → AreTold answers two told_two
      → AreTold answers (one ++ two) (told_one ++ told_two)
  told-append one two told_one told_two first second = record {
    sifted = sifted-append one two told_one told_two first.sifted second.sifted;
    urgent = filter-append (λ alert. is_urgent alert.kind) told_one told_two ∙ ap₂ (λ a b. a ++ b) first.urgent second.urgent
        ∙ sym (filter-append (λ alert. is_urgent alert.kind) one two);
  }

  -- what is put behind the list that was told
  pub told-more : (one two old new : List Alert) → AreTold answers one old → AreAdded answers two old new → AreTold answers (one ++ two) new
  told-more one two old new first more = rw more.behind (told-append one two old more.told first more.right)

  pub told-none : AreTold answers [] []
  told-none = record { sifted = refl; urgent = refl }

  -- one entry more
  pub told-turn : (n at : ℕ) (entries : List Entry) (e : Entry) (past : Past) (found : Option Alert) (old new : List Alert)
      → n ≤ at → at < length entries → slice_get entries at ≡ Some e → past ≡ past_of (take at entries) → found ≡ alert_at past e.event
      → AreTold answers (alerts_behind (take n entries) (drop n (take at entries))) old → AreAdded answers (as_list found) old new
      → AreTold answers (alerts_behind (take n entries) (drop n (take (at + 1) entries))) new
  told-turn n at entries e past found old new le lt there known is before more =
      let told : as_list (alert_at (past_of (take at entries)) e.event) ≡ as_list found = ap as_list (sym (is ∙ ap (λ p. alert_at p e.event) known)) in
      rw (behind-more n at entries e le lt there)
      (told-more (alerts_behind (take n entries) (drop n (take at entries))) (as_list (alert_at (past_of (take at entries)) e.event)) old new before (rw told more))

  -- what was told before, and what is told since, is told of the whole history
  pub told-since : (n : ℕ) (entries : List Entry) (before told : List Alert) → AreTold answers (alerts (take n entries)) before
      → AreTold answers (alerts_since n entries) told → AreTold answers (alerts entries) (before ++ told)
  told-since n entries before told first second =
      rw (since-all n entries) (told-append (alerts (take n entries)) (alerts_since n entries) before told first second)
