-- The texts that are left are still to be added, and are texts.
use Rattle.std.proofs.Common.{◌≡◌, true, drop}
use Rattle.schemars_types.proofs.Words.{is_some, items_view, texts_in, texts_options, options_of, adding}
use Rattle.schemars_types.proofs.keys.add_texts.Given as goal

abbrev pub invariant-loop-value : goal.invariant-loop-value
invariant-loop-value l = record {
  texts : is_some (texts_in (items_view (drop l.value-index l.values))) ≡ true;
  added : adding (options_of l.options) (texts_options (items_view (drop l.value-index l.values)))
      ≡ adding (options_of l.fn.options) (texts_options (items_view l.values));
}
