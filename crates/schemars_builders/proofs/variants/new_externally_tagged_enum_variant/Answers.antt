-- Four members, put in one after another.
use Rattle.std.proofs.Common.{◌≡◌, ◌++◌, [], ◌∷◌, false, ap, ◌∙◌, codes, rules}
use Rattle.schemars_builders.proofs.Words.{boolean, string, array, object, no_items, item, no_members, put, view, items_view, members_view, view-Array, view-Object}
use Rattle.serde_json.specs.declared.value.Value.{Bool, Array, Object, the_lemmas}
use Rattle.schemars_builders.proofs.variants.new_externally_tagged_enum_variant.Goals as goal

pub returns : goal.returns
returns c =
    let name = c.args.variant.now in
    let schema = c.args.sub_schema in
    let one = object (put name schema no_members) in
    let names = array (item (string name) no_items) in
    let properties : view (Object c.put.new.map) ≡ one =
    view-Object c.put.new.map
    ∙ ap object (c.in_ok-put.ensures.ok
    ∙ (ap (λ d. put name d (members_view c.new-properties.result.entries)) c.to_value.ensures.value
    ∙ ap (λ es. put name schema (members_view es)) c.new-properties.ensures.empty)) in
    let required : view (Array c.push.new.list) ≡ names =
    view-Array c.push.new.list
    ∙ (ap (λ vs. array (items_view vs))
    (c.in_ok-push.ensures.ok ∙ ap (λ vs. vs ++ c.in_ok-try_from_str.field-0 ∷ []) c.new-required.ensures.items)
    ∙ ap (λ d. array (item d no_items)) c.in_ok-try_from_str.ensures) in
    let closed : view (Bool false) ≡ boolean false = search (rules, the_lemmas) in
    let first =
    c.in_ok-put-2.ensures.ok
    ∙ (ap (λ d. put (codes "type") d (members_view c.new-members.result.entries)) c.in_ok-object.ensures
    ∙ ap (λ es. put (codes "type") (string (codes "object")) (members_view es)) c.new-members.ensures.empty) in
    let second =
    c.in_ok-put-3.ensures.ok
    ∙ (ap (λ d. put (codes "properties") d (members_view c.put-2.new.map.entries)) properties ∙ ap (put (codes "properties") one) first) in
    let third =
    c.in_ok-put-4.ensures.ok
    ∙ (ap (λ d. put (codes "required") d (members_view c.put-3.new.map.entries)) required ∙ ap (put (codes "required") names) second) in
    let fourth =
    c.in_ok-put-5.ensures.ok
    ∙ (ap (λ d. put (codes "additionalProperties") d (members_view c.put-4.new.map.entries)) closed
    ∙ ap (put (codes "additionalProperties") (boolean false)) third) in
    c.from.ensures ∙ ap object fourth
