-- A `&` to a grant borrows nothing.
use denote.RattleType.{RattleType}
use denote.RawPtr.{RawPtr}
use denote.Param.Laws.{Laws}
use denote.Param.Shared.{copy_shared}
use denote.SharingLaws.{nothing_shr_laws}
use denote.Struct.Laws.{field_copy}
use denote.Struct.Lending.{of_Lends, Lends-nothing}
use Rattle.core.specs.contracts.marker.PhantomData as marker
use Rattle.core.specs.declared.alloc.Allocator.{Ghosts}
use Rattle.sw_slots.proofs.block.Grant.TheLaw.Statement.{statement}
use Rattle.sw_slots.specs.contracts.block.Grant as C

pub shares : (R A : RattleType) (g : Ghosts A.Denot) (LR : Laws R) (LA : Laws A) → statement R A g LR LA
shares R A g LR LA =
    let marked = marker.the_row RawPtr in
    of_Lends (C.struct R A g) (C.the_codes R.Denot A.Denot R.coded A.coded marked.coded) (C.the_heap R A g) (C.the_lent R A g) (λ d p. nothing_shr_laws)
    (copy_shared (marker.the_field RawPtr) (field_copy (marker.the_type RawPtr) tt), tt) (λ M 𝓤 𝓛 d p. Lends-nothing 𝓛 (C.the_heap R A g d) (C.the_row R A g).lives)
