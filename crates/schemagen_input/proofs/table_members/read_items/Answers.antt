-- Each item says a row, or the list is not that of a table.
use Rattle.std.proofs.Common.{◌≡◌, ◌-◌, ◌<◌, [], ◌∷◌, ◌++◌, length, Some, None, ap, ◌∙◌, arith, rules}
use Rattle.schemagen_input.proofs.Words.{parse_map, after_end_array, value, items_before, items_before-none, one_more_item, item_read, item_refused, items_closed}
use Rattle.schemagen_input.proofs.table_members.read_items.Goals as goal

pub returns-in_err-row-clause-not_json : goal.returns-in_err-row-clause-not_json
returns-in_err-row-clause-not_json c = λ is.
    let l = c.items in
    let going : (after_end_array l.reader ≡ None) × (c.take_end_array.new.self ≡ l.reader) = grind arith in
    l.invariant.3 ∙ ap (parse_map (items_before l.invariant.1))
    (item_refused (value c.args.depth) l.invariant.0 l.reader going.0 (rw (← going.1) (c.read_row.ensures.not_json (search (rules, is)))))

pub items-preserved : goal.items-preserved
items-preserved c =
    let l = c.items in
    let n = l.invariant.0 in
    let ds = l.invariant.1 in
    let going : (after_end_array l.reader ≡ None) × (c.take_end_array.new.self ≡ l.reader) = grind arith in
    let done = c.in_ok-row.ensures in
    let d = done.ok.0 in
    let rest = c.read_row.new.reader in
    let less : length rest < length l.reader = rw (← going.1) done.shorter in
    let turn = item_read (value c.args.depth) n l.reader rest d (omega (arith, l.invariant.2)) going.0 (rw (← going.1) done.ok.1) in (
      n - 1,
      ds ++ d ∷ [],
      omega (arith, l.invariant.2),
      l.invariant.3 ∙ ap (parse_map (items_before ds)) turn ∙ one_more_item ds d _,
      c.in_ok-listing.ensures ds d done.ok.2 l.invariant.4,
      omega (arith, l.invariant.5),
    )

pub returns-clause-ok : goal.returns-clause-ok
returns-clause-ok c =
    let l = c.items in
    let ds = l.invariant.1 in
    let rest = c.take_end_array.new.self in (
      ds,
      l.invariant.3 ∙ ap (parse_map (items_before ds)) (items_closed (value c.args.depth) l.invariant.0 l.reader rest l.invariant.2 (grind arith))
          ∙ ap (λ es. Some (es, rest)) (items_before-none ds),
      l.invariant.4,
    )
