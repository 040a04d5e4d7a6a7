-- A list holds its items in their order, so a type may lead back to itself through `List`.
use mathlib.Core.Path.{◌≡◌, refl, sym}
use mathlib.Core.List.{List, []}
use mathlib.Core.Former.{Former, this, list, via, children}
use base.Stored.{code_map}
use denote.RattleType.{RattleType}
use denote.Hole.Carrier.{listed, list-listed}
use denote.Hole.Fix.{over}
use denote.HoleLaws.{Alike}
use denote.HolePlaces.{Recodes, struct_places, laid}
use denote.Model.Placed.{view_places}
use denote.Param.Weighed.{Weighed, w_list}
use Rattle.std.specs.contracts.alloc.Global as global
use Rattle.std.specs.contracts.impls.GlobalAllocator.TheImpl as allocator
use Rattle.std.specs.declared.alloc.Global.{Global}
use Rattle.std.specs.formers.vec.Vec as vector
use Rattle.lgc_values.specs.contracts.list.List as lists
use Rattle.lgc_values.specs.contracts.list.List.TheInside as fields
use Rattle.lgc_values.specs.declared.list.List.TheInside.{Inside}
use Rattle.lgc_values.specs.declared.list.List.TheView.{view, invariant}

-- what the items hold, one after the other
abbrev pub the_former : Former {0} → Former {0}
the_former held = list held

-- a list measures as much as its greatest item
abbrev pub the_weighed : {held : Former {0}} → Weighed held → Weighed (the_former held)
the_weighed weighed = w_list weighed

-- the empty list holds nothing
pub the_empty : List ⊥
the_empty = []

-- the items of a list are the list
abbrev pub the_items : (Item : Type 0) → List Item → List Item
the_items Item items = items

-- they are what the former holds, in this order
pub the_items_listed : (Item : Type 0) (items : List Item) → listed _ (children (the_former this) Item items) ≡ the_items Item items
the_items_listed Item items = list-listed Item items

-- the struct holds what its one field does, a vector of items
abbrev in_struct : Former {0}
in_struct = via (vector.the_former this Global) Inside (λ Item struct. struct.items) (λ Item items. record { items = items }) (λ Item struct. refl) (λ Item items. refl)

module _ (Item Other : RattleType) (change : Item.Denot → Other.Denot) where
  -- the struct over other items owns and lends the same, if they do
  in_struct_places : Alike Item Other change → Alike (fields.the_row Item) (fields.the_row Other) (in_struct.map Item.Denot Other.Denot change)
  in_struct_places alike =
      let in_vector = laid _ _ _ (vector.the_places global.the_row allocator.ghosts Item Other change alike) in
      struct_places (fields.the_type Item) (fields.the_type Other) (vector.mapped change, tt) _ (λ struct. refl) refl (in_vector, tt)

  -- so does the list, since its view is the field's items
  pub the_places : Alike Item Other change → Alike (lists.the_row Item) (lists.the_row Other) ((the_former this).map Item.Denot Other.Denot change)
  the_places alike = view_places in_struct (the_former this) view (λ X Y f struct. refl) (λ X struct. refl)
      Item.Denot Other.Denot change (lists.the_row Item).coded (lists.the_row Other).coded
      (invariant Item.Denot) (invariant Other.Denot) (λ struct p q. refl) (λ struct p q. refl) (λ struct holds. tt) (λ struct holds. tt)
      (over (fields.the_row Item)) (over (fields.the_row Other)) (in_struct_places alike)

  -- a list of items with the same codes has the same code
  pub the_codes_placed : Recodes Item Other change → Recodes (lists.the_row Item) (lists.the_row Other) ((the_former this).map Item.Denot Other.Denot change)
  the_codes_placed recodes items = sym (code_map Item.coded.code Other.coded.code change (λ item. sym (recodes item)) items)
