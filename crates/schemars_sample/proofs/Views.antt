-- What the examples with members are seen as.
use Rattle.std.proofs.Common.{◌≡◌, [], rules, String, Global, Vec}
use Rattle.schemars_sample.proofs.Words.{string_bytes, example_of, entries_view, struct, collected_map, struct_variant}
use Rattle.schemars_sample.specs.declared.sample.Sample.{Sample, Map, CollectMap, Struct, StructVariant, the_lemmas}

pub example_of-Map : (v : Vec (String Global × Sample) Global) → example_of (Map v) ≡ struct [] (entries_view v.items)
example_of-Map v = search (rules, the_lemmas)

pub example_of-CollectMap : (v : Vec (String Global × Sample) Global) → example_of (CollectMap v) ≡ collected_map (entries_view v.items)
example_of-CollectMap v = search (rules, the_lemmas)

pub example_of-Struct :
    (name : String Global) (v : Vec (String Global × Sample) Global)
    → example_of (Struct name v) ≡ struct (string_bytes name) (entries_view v.items)
example_of-Struct name v = search (rules, the_lemmas)

pub example_of-StructVariant :
    (name : String Global) (v : Vec (String Global × Sample) Global)
    → example_of (StructVariant name v) ≡ struct_variant (string_bytes name) (entries_view v.items)
example_of-StructVariant name v = search (rules, the_lemmas)
