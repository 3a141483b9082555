-- What is read is what the grammar reads, token by token.
use Rattle.std.proofs.Common.{◌≡◌, ◌-◌, ◌<◌, [], ◌∷◌, length, map, Some, None, sym, ap, ◌∙◌, arith, rules}
use Rattle.schemagen_json.proofs.Words.{Token, parse_map, after_end_array, read_key, items, members, value, token_of, value_is, read_key-shorter, null, boolean, number, string, array, object, put, of_json, of_items, of_members, converted, number_view, data_of, members_data}
use Rattle.schemagen_json.specs.declared.borrowed_value.BorrowedValue.{String, Number, Bool, Null, the_lemmas}
use Rattle.schemagen_json.proofs.Members.{data_of-Array, data_of-Object, map-push, members_data-push}
use Rattle.schemagen_json.proofs.Reading.{nothing_read, string_read, boolean_read, null_read, number_read, number_refused, array_opened, object_opened, array_too_deep, object_too_deep, read_at, items_before, items_before-none, one_more_item, none_before, item_read, item_refused, items_closed, member_read, member_refused, name_refused, members_closed}
use Rattle.schemagen_json.proofs.borrowed_value.reading.+read.Goals as goal

pub read_value-returns-in_err-token-clause-not_json : goal.read_value-returns-in_err-token-clause-not_json
read_value-returns-in_err-token-clause-not_json t c refused = nothing_read c.args.depth c.args.reader.now [] (grind arith)

pub read_value_from-returns-then-depth-eq0-clause-not_json : goal.read_value_from-returns-then-depth-eq0-clause-not_json
read_value_from-returns-then-depth-eq0-clause-not_json t c refused =
    let first : token_of c.args.token ∷ c.args.reader.now ≡ Token.begin_array ∷ c.args.reader.now = grind (arith, c.in-BeginArray.is) in
    let none : c.args.depth ≡ 0 = omega arith in
    ap (λ k. read_at k (token_of c.args.token ∷ c.args.reader.now)) none ∙ array_too_deep _ _ first

pub read_value_from-returns-then-depth-eq0-2-clause-not_json : goal.read_value_from-returns-then-depth-eq0-2-clause-not_json
read_value_from-returns-then-depth-eq0-2-clause-not_json t c refused =
    let first : token_of c.args.token ∷ c.args.reader.now ≡ Token.begin_object ∷ c.args.reader.now = grind (arith, c.in-BeginObject.is) in
    let none : c.args.depth ≡ 0 = omega arith in
    ap (λ k. read_at k (token_of c.args.token ∷ c.args.reader.now)) none ∙ object_too_deep _ _ first

pub read_value_from-returns-in_err-read_items-in-BeginArray-clause-not_json : goal.read_value_from-returns-in_err-read_items-in-BeginArray-clause-not_json
read_value_from-returns-in_err-read_items-in-BeginArray-clause-not_json t c refused =
    let first : token_of c.args.token ∷ c.args.reader.now ≡ Token.begin_array ∷ c.args.reader.now = grind (arith, c.in-BeginArray.is) in
    array_opened c.args.depth _ _ (omega arith) first
    ∙ ap (parse_map array) (c.read_items.ensures.not_json (grind arith))

pub read_value_from-returns-in_err-read_members-in-BeginObject-clause-not_json : goal.read_value_from-returns-in_err-read_members-in-BeginObject-clause-not_json
read_value_from-returns-in_err-read_members-in-BeginObject-clause-not_json t c refused =
    let first : token_of c.args.token ∷ c.args.reader.now ≡ Token.begin_object ∷ c.args.reader.now = grind (arith, c.in-BeginObject.is) in
    object_opened c.args.depth _ _ (omega arith) first
    ∙ ap (parse_map object) (c.read_members.ensures.not_json (grind arith))

pub read_value_from-returns-in-String-clause-ok : goal.read_value_from-returns-in-String-clause-ok
read_value_from-returns-in-String-clause-ok t c =
    let first : token_of c.args.token ∷ c.args.reader.now ≡ Token.string c.in-String.text.now ∷ c.args.reader.now = grind (arith, c.in-String.is) in
    let seen : data_of (String c.in-String.text) ≡ string c.in-String.text.now = search (rules, the_lemmas) in
    string_read c.args.depth _ _ _ first ∙ ap (λ d. Some (d, c.args.reader.now)) (sym seen)

pub read_value_from-returns-in-Some-clause-ok : goal.read_value_from-returns-in-Some-clause-ok
read_value_from-returns-in-Some-clause-ok t c =
    let first : token_of c.args.token ∷ c.args.reader.now ≡ Token.number c.in-Number.text.now ∷ c.args.reader.now = grind (arith, c.in-Number.is) in
    let seen : data_of (Number c.in-Some.number) ≡ number (number_view c.in-Some.number) = search (rules, the_lemmas) in
    number_read c.args.depth _ _ _ _ first (sym c.in-Some.ensures)
    ∙ ap (λ d. Some (d, c.args.reader.now)) (sym seen)

pub read_value_from-returns-in-None-clause-not_json : goal.read_value_from-returns-in-None-clause-not_json
read_value_from-returns-in-None-clause-not_json t c refused =
    let first : token_of c.args.token ∷ c.args.reader.now ≡ Token.number c.in-Number.text.now ∷ c.args.reader.now = grind (arith, c.in-Number.is) in
    number_refused c.args.depth _ _ _ first (sym c.in-None.ensures)

pub read_value_from-returns-in-Bool-clause-ok : goal.read_value_from-returns-in-Bool-clause-ok
read_value_from-returns-in-Bool-clause-ok t c =
    let first : token_of c.args.token ∷ c.args.reader.now ≡ Token.boolean c.in-Bool.b ∷ c.args.reader.now = grind (arith, c.in-Bool.is) in
    let seen : data_of (Bool c.in-Bool.b) ≡ boolean c.in-Bool.b = search (rules, the_lemmas) in
    boolean_read c.args.depth _ _ _ first ∙ ap (λ d. Some (d, c.args.reader.now)) (sym seen)

pub read_value_from-returns-in-Null-clause-ok : goal.read_value_from-returns-in-Null-clause-ok
read_value_from-returns-in-Null-clause-ok t c =
    let first : token_of c.args.token ∷ c.args.reader.now ≡ Token.null ∷ c.args.reader.now = grind (arith, c.in-Null.is) in
    let seen : data_of Null ≡ null = search (rules, the_lemmas) in
    null_read c.args.depth _ _ first ∙ ap (λ d. Some (d, c.args.reader.now)) (sym seen)

pub read_value_from-returns-in-EndObject-clause-not_json : goal.read_value_from-returns-in-EndObject-clause-not_json
read_value_from-returns-in-EndObject-clause-not_json t c refused =
    let none : value c.args.depth (token_of c.args.token ∷ c.args.reader.now) ≡ None =
    rw (value_is c.args.depth (token_of c.args.token ∷ c.args.reader.now)) (grind (arith, c.in-EndObject.is)) in
    ap (converted of_json) none

pub read_value_from-returns-in_ok-read_items-in-BeginArray-clause-ok : goal.read_value_from-returns-in_ok-read_items-in-BeginArray-clause-ok
read_value_from-returns-in_ok-read_items-in-BeginArray-clause-ok t c =
    let first : token_of c.args.token ∷ c.args.reader.now ≡ Token.begin_array ∷ c.args.reader.now = grind (arith, c.in-BeginArray.is) in
    let found = c.in_ok-read_items-in-BeginArray in
    array_opened c.args.depth _ _ (omega arith) first
    ∙ ap (parse_map array) found.ensures.ok ∙ ap (λ d. Some (d, c.read_items.new.reader)) (sym (data_of-Array found.field-0))

pub read_value_from-returns-in_ok-read_members-in-BeginObject-clause-ok : goal.read_value_from-returns-in_ok-read_members-in-BeginObject-clause-ok
read_value_from-returns-in_ok-read_members-in-BeginObject-clause-ok t c =
    let first : token_of c.args.token ∷ c.args.reader.now ≡ Token.begin_object ∷ c.args.reader.now = grind (arith, c.in-BeginObject.is) in
    let found = c.in_ok-read_members-in-BeginObject in
    object_opened c.args.depth _ _ (omega arith) first
    ∙ ap (parse_map object) found.ensures.ok ∙ ap (λ d. Some (d, c.read_members.new.reader)) (sym (data_of-Object found.field-0))

pub read_items-items-init : goal.read_items-items-init
read_items-items-init t c =
    let all = converted of_items (items (value c.args.depth) (length c.args.reader.now) c.args.reader.now) in (
      length c.args.reader.now,
      omega arith,
      sym (none_before all)
          ∙ ap (λ vs. parse_map (items_before (map data_of vs)) all) (sym c.new-found.ensures.items),
      omega arith,
    )

pub read_items-returns-in_err-item-clause-not_json : goal.read_items-returns-in_err-item-clause-not_json
read_items-returns-in_err-item-clause-not_json t c refused =
    let l = c.items in
    let going : (after_end_array l.reader ≡ None) × (c.take_end_array.new.self ≡ l.reader) = grind arith in
    l.invariant.2 ∙ ap (parse_map (items_before (map data_of l.found.items)))
    (item_refused (value c.args.depth) l.invariant.0 l.reader going.0 (rw (← going.1) (c.read_value.ensures.not_json (grind arith))))

pub read_items-items-preserved : goal.read_items-items-preserved
read_items-items-preserved t c =
    let p = value c.args.depth in
    let l = c.items in
    let n = l.invariant.0 in
    let going : (after_end_array l.reader ≡ None) × (c.take_end_array.new.self ≡ l.reader) = grind arith in
    let done = c.in_ok-item.ensures in
    let v = c.in_ok-item.item in
    let rest = c.read_value.new.reader in
    let less : length rest < length l.reader = rw (← going.1) done.shorter in
    let turn = item_read p n l.reader rest (data_of v) (omega (arith, l.invariant.1)) going.0 (rw (← going.1) done.ok) in (
      n - 1,
      omega (arith, l.invariant.1),
      l.invariant.2 ∙ ap (parse_map (items_before (map data_of l.found.items))) turn ∙ one_more_item (map data_of l.found.items) (data_of v) _
          ∙ ap (λ ds. parse_map (items_before ds) (converted of_items (items p (n - 1) rest)))
          (sym (map-push data_of l.found.items v) ∙ ap (map data_of) (sym c.in_ok-push.ensures.items)),
      omega (arith, l.invariant.3),
    )

pub read_items-returns-clause-ok : goal.read_items-returns-clause-ok
read_items-returns-clause-ok t c =
    let l = c.items in
    let rest = c.take_end_array.new.self in
    l.invariant.2
    ∙ ap (parse_map (items_before (map data_of l.found.items))) (items_closed (value c.args.depth) l.invariant.0 l.reader rest l.invariant.1 (grind arith))
    ∙ ap (λ ds. Some (ds, rest)) (items_before-none (map data_of l.found.items))

pub read_members-members-init : goal.read_members-members-init
read_members-members-init t c =
    let all = members (value c.args.depth) (length c.args.reader.now) c.args.reader.now in
    (length c.args.reader.now, omega arith, ap (λ es. converted (λ ms. of_members ms (members_data es)) all) (sym c.new-found.ensures.items), omega arith)

pub read_members-returns-in_err-name-clause-not_json : goal.read_members-returns-in_err-name-clause-not_json
read_members-returns-in_err-name-clause-not_json t c refused =
    let l = c.members in
    l.invariant.2 ∙ name_refused (value c.args.depth) (members_data l.found.items) l.invariant.0 l.reader c.in_err-name.ensures.value

pub read_members-returns-in_err-member-clause-not_json : goal.read_members-returns-in_err-member-clause-not_json
read_members-returns-in_err-member-clause-not_json t c refused =
    let l = c.members in
    let behind = c.next_key.new.self in
    let named : read_key l.reader ≡ Some (Some c.in-Some.name.now, behind) = grind arith in
    l.invariant.2
    ∙ member_refused (value c.args.depth) (members_data l.found.items) l.invariant.0 c.in-Some.name.now l.reader behind named
    (c.read_value.ensures.not_json (grind arith))

pub read_members-members-preserved : goal.read_members-members-preserved
read_members-members-preserved t c =
    let p = value c.args.depth in
    let l = c.members in
    let n = l.invariant.0 in
    let name = c.in-Some.name in
    let behind = c.next_key.new.self in
    let named : read_key l.reader ≡ Some (Some name.now, behind) = grind arith in
    let done = c.in_ok-member.ensures in
    let v = c.in_ok-member.member in
    let rest = c.read_value.new.reader in
    let less = read_key-shorter l.reader (Some name.now) behind named in
    let lesser = done.shorter in
    let grown : members_data c.push.new.self.items ≡ put name.now (data_of v) (members_data l.found.items) =
    ap members_data c.in_ok-push.ensures.items ∙ members_data-push l.found.items (name, v) in (
      n - 1,
      omega (arith, l.invariant.1),
      l.invariant.2
          ∙ member_read p (members_data l.found.items) n name.now l.reader behind rest (data_of v) (omega (arith, l.invariant.1)) named done.ok
          ∙ ap (λ found. converted (λ ms. of_members ms found) (members p (n - 1) rest)) (sym grown),
      omega (arith, l.invariant.3),
    )

pub read_members-returns-clause-ok : goal.read_members-returns-clause-ok
read_members-returns-clause-ok t c =
    let l = c.members in
    l.invariant.2
    ∙ members_closed (value c.args.depth) (members_data l.found.items) l.invariant.0 l.reader c.next_key.new.self l.invariant.1 (grind arith)
