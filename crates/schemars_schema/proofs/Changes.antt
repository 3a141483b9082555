-- A member that is changed in its place, and one that is added.
use Rattle.std.proofs.Common.{◌≡◌, ℕ, List, Option, Some, None, option_map, is_some, nat_cmp, string_bytes, refl, ap, ◌∙◌}
use Rattle.schemars_schema.proofs.Words.{slice_cmp, set_value, is_at, Data, Members, put, get_member, view, members_view, Entry, view-lookup, replaced, changed_at}
use Rattle.std.specs.Map.{lookup}
use Rattle.serde_json.specs.declared.value.Value.{Value}
use Rattle.schemars_schema.proofs.MapEdits.{members_view-set_value}

pub changed_there : (k : List ℕ) (es : List Entry) (old new : Value) (change : Data → Data) (d : Data)
    → Some (view old) ≡ get_member k (members_view es) → view new ≡ change (view old)
    → members_view (set_value (is_at (λ l. slice_cmp nat_cmp k (string_bytes l))) es new) ≡ changed_at k change d (members_view es)
changed_there k es old new change d found is =
    members_view-set_value k es new
    ∙ (ap (λ e. replaced k e (members_view es)) is ∙ there (get_member k (members_view es)) found)
  where
    there : (o : Option Data) → Some (view old) ≡ o → replaced k (change (view old)) (members_view es)
        ≡ elim o [ None ↦ put k (change d) (members_view es) | Some e ↦ replaced k (change e) (members_view es) ]
    there (Some e) same = let is : view old ≡ e = cc in ap (λ f. replaced k (change f) (members_view es)) is
    there None same = cc

pub changed_missing : (k : List ℕ) (old ms : Members) (change : Data → Data) (d e : Data)
    → None ≡ get_member k ms → e ≡ change d → old ≡ ms → put k e old ≡ changed_at k change d ms
changed_missing k old ms change d e missing made same =
    ap (λ f. put k f old) made ∙ (ap (put k (change d)) same ∙ absent (get_member k ms) missing)
  where
    absent : (o : Option Data) → None ≡ o → put k (change d) ms
        ≡ elim o [ None ↦ put k (change d) ms | Some f ↦ replaced k (change f) ms ]
    absent None same = refl
    absent (Some f) same = cc

some_seen : (o : Option Value) → is_some o ≡ is_some (option_map view o)
some_seen None = refl
some_seen (Some v) = refl

pub is_there : (k : List ℕ) (es : List Entry)
    → is_some (lookup (is_at (λ l. slice_cmp nat_cmp k (string_bytes l))) es) ≡ is_some (get_member k (members_view es))
is_there k es = some_seen (lookup (is_at (λ l. slice_cmp nat_cmp k (string_bytes l))) es) ∙ ap is_some (view-lookup k es)
