-- What the checker holds: the names of a program with what they stand for, and a place of it.
use Rattle.std.specs.Prelude.{◌≡◌, ◌<◌, ℕ, Bool, List, [], ◌∷◌, length, Option, None, option_map, slice_get, if◌then◌else◌}
use Rattle.std.specs.Str.{bytes_eq}
use Rattle.std.specs.String.{string_bytes}
use Rattle.std.specs.declared.alloc.Global.{Global}
use Rattle.std.specs.declared.string.String.{String}
use Rattle.vert_tree.specs.declared.name.What.{What}
use Rattle.vert_tree.specs.Places as tree
use Rattle.vert_tree.specs.Places.{is_named, is_slot, is_target}
use Rattle.vert_tree.specs.Readable.{Readable}
use Rattle.vert_tree.specs.Views.{text_of}
use Rattle.vert_types.specs.declared.scope.Meaning.{Meaning}
use Rattle.vert_types.specs.declared.scope.Place.{Place}
use Rattle.vert_types.specs.declared.scope.Rights.{Rights}
use Rattle.vert_types.specs.declared.scope.Role.{Role}
use Rattle.vert_types.specs.declared.scope.Role.TheVariants.{Read, ReadSlot, Behind, Emitted, Assigned}
use Rattle.vert_types.specs.declared.scope.Scope.{Scope}
use Rattle.vert_types.specs.declared.scope.Words.{Words}
use Rattle.vert_types.specs.Filled.{what_in}
use Rattle.vert_types.specs.Typing as typing
use Rattle.vert_types.specs.Typing.{Dictionary, is_field, is_read_slot}

-- names beside what they stand for, as a dictionary
abbrev pub beside : List (String Global) → List (Option Meaning) → Dictionary
beside [] ms text = None
beside (name ∷ names) [] text = None
beside (name ∷ names) (m ∷ ms) text = if bytes_eq (string_bytes name) text then m else beside names ms text

-- no text stands twice
abbrev pub AreApart : List (String Global) → Type 0
AreApart names = (i j : ℕ) → i < length names → j < length names → text_of names i ≡ text_of names j → i ≡ j

abbrev pub names_in : Scope → List (String Global)
names_in s = s.program.now.names.items

abbrev pub dictionary_in : Scope → Dictionary
dictionary_in s = beside (names_in s) s.meanings.now

pub record IsScope (s : Scope) : Type 0 where
  pub wide : length s.meanings.now ≡ length (names_in s)
  pub apart : AreApart (names_in s)

abbrev pub view_words : Words → Readable
view_words w = record { own = w.own; active = w.active; weight = w.weight; others = w.others; slots = w.slots }

abbrev pub view_place : Place → typing.Place
view_place p = record {
  words = view_words p.words;
  names = record {
    fields = p.fields;
    locals = p.locals;
    sends = p.sends;
    slots = p.slots;
    totals = p.totals;
    other_fields = p.fields;
  };
}

abbrev pub view_rights : Rights → tree.Rights
view_rights r = record { locals = r.locals; fields = r.fields; active = r.active; emits = r.emits; breaks = r.breaks }

-- whether a name may be used so at a place
abbrev pub is_of : Role → typing.Place → What → Bool
is_of Read p = is_named p.names
is_of ReadSlot p = is_read_slot p
is_of Behind p = is_field
is_of Emitted p = is_slot p.names
is_of (Assigned r) p = is_target (view_rights r) p.names

-- what the name at this place stands for
abbrev pub what_at : List (Option Meaning) → ℕ → Option What
what_at ms number = option_map what_in (slice_get ms number)
