mod Chunks
