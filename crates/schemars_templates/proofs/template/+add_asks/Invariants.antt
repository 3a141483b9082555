-- What is listed and what the rest lists is what the whole lists.
use Rattle.std.proofs.Common.{◌≡◌, ◌++◌, map, drop}
use Rattle.schemars_templates.proofs.Words.{asks_of, asks_in, object_with, templates_of, ask_of, template_view, keyword_view, property_view}
use Rattle.schemars_templates.proofs.template.+add_asks.Given as goal

abbrev pub invariant-add_node_asks-loop-keyword : goal.invariant-add_node_asks-loop-keyword
invariant-add_node_asks-loop-keyword l =
    map ask_of l.asks.items ++ asks_of (object_with (map keyword_view (drop l.keyword-index l.keyword-items)))
    ≡ map ask_of l.fn.asks.items ++ asks_of (object_with (map keyword_view l.keyword-items))

abbrev pub invariant-add_value_asks-loop-schema : goal.invariant-add_value_asks-loop-schema
invariant-add_value_asks-loop-schema l =
    map ask_of l.asks.items ++ asks_in (templates_of (map template_view (drop l.schema-index l.schema-items)))
    ≡ map ask_of l.fn.asks.items ++ asks_in (templates_of (map template_view l.schema-items))

abbrev pub invariant-add_value_asks-loop-named : goal.invariant-add_value_asks-loop-named
invariant-add_value_asks-loop-named l =
    map ask_of l.asks.items ++ asks_of (object_with (map property_view (drop l.named-index l.named-items)))
    ≡ map ask_of l.fn.asks.items ++ asks_of (object_with (map property_view l.named-items))
