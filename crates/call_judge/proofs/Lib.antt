mod AnyStray
