-- After the siblings of references have gone, no schema has a keyword beside `$ref`.
use Rattle.std.proofs.Common.{◌≡◌, inl, inr, Option, Some, None, Bool, true, false, codes, refl, ◌∙◌}
use Rattle.schemars_laws.proofs.Words.{if◌then◌else◌, ◌==◌, Data, object, Members, get_member, members_len, without, differ, reference_moved, without_siblings, remove_ref_siblings, asked_of_keywords, IsOnce, IsReferenceAlone, LeavesReferencesAlone, asked}
use Rattle.schemars_laws.proofs.Looked.{change_rules, walked, once-walked}
use Rattle.schemars_laws.proofs.Siblings.{schema-siblings, get-moved}
use Rattle.schemars_laws.proofs.Preserved.{Preserves, after, change-preserves, asked-without}
use Rattle.schemars_laws.proofs.Editing.{asked-moved}

alone : Preserves (change_rules without_siblings) (IsOnce (codes "$ref")) IsReferenceAlone
unfolding asked
alone = change-preserves without_siblings (IsOnce (codes "$ref")) IsReferenceAlone schema-siblings (λ b. tt) go
  where
    go : (ms : Members) → IsOnce (codes "$ref") ms → asked_of_keywords IsReferenceAlone (walked without_siblings ms)
        → (asked IsReferenceAlone (without_siblings (object (walked without_siblings ms)))).as_schema
    go ms once a = each (members_len ns == 1) refl (get_member (codes "$ref") ns)
      where
        ns : Members
        ns = walked without_siblings ms

        gone : IsOnce (codes "$ref") ns
        gone = once-walked without_siblings (codes "$ref") ms once

        each : (b : Bool) → (members_len ns == 1) ≡ b → (o : Option Data)
            → (asked IsReferenceAlone (if b then object ns else reference_moved o (object (without (codes "$ref") ns)))).as_schema
        each true one o = (inr one, a)
        each false one None = (inl gone, asked-without IsReferenceAlone (codes "$ref") ns a)
        each false one (Some r) = (
          inl (get-moved r ns (codes "$ref") (differ (codes "$ref") (codes "allOf") refl) ∙ gone),
          asked-moved IsReferenceAlone r (inr refl, (tt, tt)) ns a,
        )

pub references-alone : LeavesReferencesAlone remove_ref_siblings
references-alone s once = after (change_rules without_siblings) (IsOnce (codes "$ref")) IsReferenceAlone alone tt s once
